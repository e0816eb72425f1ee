use Rattle.std.proofs.Common.{◌≡◌, ◌<◌, length, true, refl, arith}
use Rattle.std.specs.Prelude.{is_ok}
use Rattle.std.proofs.lemmas.Grind.{common_steps}
use Rattle.guard_check.proofs.Bodies.{body_pushed}
use Rattle.guard_check.proofs.tasks.push_bodies.Goals as goal

pub loop-i-preserved : goal.loop-i-preserved
loop-i-preserved c =
    let l : c.loop-i.i < length c.as_slice-branches.result.now = grind arith in
    let f : is_ok c.push.result ≡ true = grind (arith, common_steps) in
    let p = rw f at c.push.ensures.items in
    body_pushed _ _ _ _ _ c.args.tasks.now.items c.loop-i.tasks.items c.push.new.self.items _ c.loop-i.i c.index-branches-place.result _ refl l c.index-branches-place.is
    c.in_ok-inner.ensures.values c.in_ok-inner.ensures.marks c.in_ok-body.ensures.ok p c.loop-i.invariant
