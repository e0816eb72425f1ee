use Rattle.std.proofs.Common.{subst}
use Rattle.wasm_validate.specs.Verdicts.{SaysOfModule}
use Rattle.wasm_core.proofs.FaultUnique.{first_fault_is_fault}
use Rattle.wasm_validate.proofs.validation.validate.Goals as goal

pub returns-in-Ok-Some-clause-refused : goal.returns-in-Ok-Some-clause-refused
returns-in-Ok-Some-clause-refused c =
    let f = subst (SaysOfModule c.args.m) c.in-Ok-Some.field-0-is c.in-Ok-Some.ensures.is in (f, first_fault_is_fault c.args.m c.in-Ok-Some.func c.in-Ok-Some.place f)
