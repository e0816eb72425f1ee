use Rattle.std.proofs.Common.{◌≡◌, ◌∙◌, sym}
use Rattle.trees.proofs.Operations.{lift-none}
use Rattle.type_cert.proofs.standing.is_lifted.Goals as goal

pub returns : goal.returns
returns c = record { is = λ h. sym (c.lifts.ensures.is h) ∙ sym (lift-none 0 c.args.argument.now) }
