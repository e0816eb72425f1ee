use Rattle.lazy_conversion.proofs.ValueHeads.{definitions_read, no_definitions}
use Rattle.lazy_conversion.proofs.stuck.definitions.Goals as goal

pub returns-in-Fix : goal.returns-in-Fix
returns-in-Fix c =
    let e = rw c.in-Fix.is at c.view.ensures.is in
    record { is = (c.in-Fix.field-1, definitions_read c.args.l.now c.in-Fix.defs c.in-Fix.field-1 e) }

pub returns-in_default : goal.returns-in_default
returns-in_default c = record { is = no_definitions c.args.l.now c.view.result.now c.view.ensures.is c.requires c.in_default.not-Fix }
