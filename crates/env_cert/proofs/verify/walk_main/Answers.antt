use Rattle.std.proofs.Common.{sym, ◌∙◌, rules, length}
use Rattle.std.proofs.lemmas.Bool.{ne_eqb}
use Rattle.type_infer.specs.Ready.{IsReady}
use Rattle.type_cert.proofs.Retracing.{retraces_on, retraces_err}
use Rattle.env_cert.proofs.Whole.{all_used, some_left, main_halted}
use Rattle.env_cert.proofs.verify.walk_main.Goals as goal

pub infer-requires : goal.infer-requires
infer-requires g c =
    let r : IsReady c.args.walk.now.verifier.env.now c.new-none.result = rw c.new-none.ensures.empty c.requires.ready in
    search rules

pub returns-in_err-ty : goal.returns-in_err-ty
returns-in_err-ty g c =
    let p = rw c.new-none.ensures.empty at c.in_err-ty.ensures.retraces in
    record { retraces = main_halted c.args.walk.now.verifier.env.now c.from_residual.result c.from_residual.ensures.1 (retraces_err _ p) }

pub returns-then-trail-len : goal.returns-then-trail-len
returns-then-trail-len g c =
    let v = c.args.walk.now.verifier in
    let p = rw c.new-none.ensures.empty at c.in_ok-ty.ensures.retraces in
    record { retraces = retraces_on _ p (all_used v.cert.now v.env.now c.in_ok-ty.ty c.infer.new.trail (c.if-trail-len.true ∙ c.len.ensures.is)) }

pub returns : goal.returns
returns g c =
    let v = c.args.walk.now.verifier in
    let p = rw c.new-none.ensures.empty at c.in_ok-ty.ensures.retraces in
    record { retraces = retraces_on _ p (some_left v.cert.now v.env.now c.in_ok-ty.ty c.infer.new.trail (ne_eqb c.infer.new.trail.at (length v.cert.now) (λ e. c.if-trail-len.false (e ∙ sym c.len.ensures.is)))) }
