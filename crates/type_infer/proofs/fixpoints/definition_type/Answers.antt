use Rattle.std.proofs.Common.{◌≡◌}
use Rattle.type_infer.proofs.Fixing.{definition_typed, no_definition}
use Rattle.type_infer.proofs.fixpoints.definition_type.Goals as goal

pub returns-in_ok-share-in-Some : goal.returns-in_ok-share-in-Some
returns-in_ok-share-in-Some c =
    record { answers = λ u. definition_typed c.args.defs.now c.args.i u c.in-Some.def.now c.in_ok-share-in-Some.field-0 c.in-Some.ensures.at c.in_ok-share-in-Some.ensures.ok }

pub returns-in-None : goal.returns-in-None
returns-in-None c =
    record { answers = λ u. no_definition c.args.defs.now c.args.i u c.bad_number.result c.in-None.ensures.at (rw c.len.ensures.is at c.bad_number.ensures.is) }
