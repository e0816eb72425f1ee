use Rattle.std.proofs.Common.{◌<◌, ◌≤◌, ◌-◌, ◌^◌, length, get_or, sym, subst, arith}
use Rattle.std.proofs.lemmas.List.{take_more, take_all}
use Rattle.run_costs.specs.Costs.{AreUnder}
use Rattle.known_types.proofs.Counts.{under_more}
use Rattle.known_types.proofs.spending.all_under.Goals as goal

pub loop-i-preserved : goal.loop-i-preserved
loop-i-preserved c =
    let l : c.loop-i.i < length c.args.counts.now = grind arith in
    let n : get_or c.args.counts.now c.loop-i.i 0 < 2 ^ 64 - 1 = grind arith in
    subst (λ us. AreUnder us) (sym (take_more c.args.counts.now c.loop-i.i 0 l)) (under_more _ _ c.loop-i.invariant n)

pub returns : goal.returns
returns c =
    let l : length c.args.counts.now ≤ c.loop-i.i = grind arith in
    record { under = λ _. subst (λ us. AreUnder us) (take_all c.loop-i.i c.args.counts.now l) c.loop-i.invariant }
