use Rattle.std.proofs.Common.{◌≡◌, arith, subst, Some}
use Rattle.calculus_rules.specs.Context.{values}
use Rattle.reduce_machine.specs.Reads.{read}
use Rattle.reduce_machine.specs.Reducts.{after}
use Rattle.reduce_machine.specs.Values.{term_of}
use Rattle.type_cert.proofs.Stepping.{whnf_after}
use Rattle.type_cert.proofs.taken.normal_value.Goals as goal

pub returns-then-left-eq0-clause-after : goal.returns-then-left-eq0-clause-after
returns-then-left-eq0-clause-after c =
    let E = c.args.env.now in
    let V = values c.args.ctx.now in
    let f = rw (c.new-at.ensures.env, c.new-at.ensures.ctx) at c.in-Ok-weak_value.ensures.follows.answer in
    let h = whnf_after E V c.args.n (read c.in-Ok.start) (term_of c.in-Ok-weak_value.value) c.new-units.result.account c.weak_value.new.m.account f c.new-units.ensures.left (omega (arith, c.left.ensures.is)) in
    subst (λ l. after E V c.args.n (read l) ≡ Some (term_of c.in-Ok-weak_value.value)) c.in-Ok.ensures.ok h
