use Rattle.std.proofs.Common.{rules, ◌≡◌, ◌∙◌, ap, sym}
use Rattle.trees.specs.Substitution.{lift}
use Rattle.trees.proofs.Operations.{lift-none}
use Rattle.type_cert.proofs.standing.lifted_stands.Goals as goal

pub returns-then-k-eq0 : goal.returns-then-k-eq0
returns-then-k-eq0 c =
    let z : c.args.k ≡ 0 = search rules in
    record { is = λ h. sym (c.same.ensures.is.0 h) ∙ sym (ap (λ k. lift k 0 c.args.argument.now) z ∙ lift-none 0 c.args.argument.now) }
