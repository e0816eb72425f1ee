use Rattle.std.proofs.Common.{rules, ◌≡◌, ◌∙◌, ◌<◌, ◌≤◌, ◌+◌, ◌-◌, ap, length, slice_index, arith}
use Rattle.run_costs.specs.Costs.{capped, differences}
use Rattle.known_types.proofs.Counts.{part_start, part_more, part_end, capped_is}
use Rattle.known_types.proofs.spending.raised.Goals as goal

pub loop-i-init : goal.loop-i-init
loop-i-init c = part_start (differences c.args.after.now c.args.before.now) c.args.counts.now

pub loop-i-preserved : goal.loop-i-preserved
loop-i-preserved c =
    let l : c.loop-i.i < length c.args.counts.now = grind arith in
    let k : c.loop-i.i < length c.args.before.now = grind arith in
    let h : c.loop-i.i < length c.args.after.now = grind arith in
    let i = c.loop-i.i in
    let d : c.saturating_sub.result ≡ slice_index c.args.after.now i - slice_index c.args.before.now i = search rules in
    part_more c.args.before.now c.args.after.now c.args.counts.now c.loop-i.uses i c.saturating_add.result c.loop-i.invariant l k h
    (search rules ∙ capped_is (slice_index c.loop-i.uses i) c.saturating_sub.result ∙ ap (λ n. capped (slice_index c.loop-i.uses i) n) d)

pub returns : goal.returns
returns c =
    let l : length c.args.counts.now ≤ c.loop-i.i = grind arith in
    record {
      is = part_end (differences c.args.after.now c.args.before.now) c.args.counts.now c.loop-i.uses c.loop-i.i c.loop-i.invariant l;
      counts = grind arith;
    }
