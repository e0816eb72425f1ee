use Rattle.std.proofs.Common.{◌≡◌, ◌+◌, ◌<◌, ◌≤◌, ℕ, Bool, ap, ◌∙◌, arith}
use Rattle.std.specs.Prelude.{if◌then◌else◌}
use Rattle.shrink_passes.specs.DeadPlaces.{flag_at}
use Rattle.shrink_passes.specs.Pruned.{kept}
use Rattle.shrink_passes.proofs.Unwrapped.{kept_next, kept_whole, kept_done, one_kept}
use Rattle.shrink_passes.proofs.unwrapping.kept_places.Goals as goal

pub loop-p-init : goal.loop-p-init
loop-p-init c = record { counted = kept_whole (λ p. flag_at p c.args.dead.now) c.args.n; few = omega arith }

pub loop-p-preserved : goal.loop-p-preserved
loop-p-preserved c =
    let D : ℕ → Bool = λ p. flag_at p c.args.dead.now in
    let p = c.loop-p.p in
    let l : p < c.args.n = grind arith in
    let e = c.with_place-count.ensures.is ∙ ap (λ (z : Bool). c.loop-p.count + (if z then 0 else 1)) c.at.ensures.is in
    let one = one_kept (D p) in
    record { counted = omega (arith, e, kept_next D p c.args.n l, c.loop-p.invariant.counted); few = omega (arith, e, one, c.loop-p.invariant.few) }

pub returns : goal.returns
returns c =
    let D : ℕ → Bool = λ p. flag_at p c.args.dead.now in
    let l : c.args.n ≤ c.loop-p.p = c.loop-p-test.false in
    record { is = omega (arith, c.loop-p.invariant.counted, kept_done D c.loop-p.p c.args.n l) }
