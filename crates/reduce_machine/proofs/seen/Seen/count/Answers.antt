use Rattle.std.proofs.Common.{◌∙◌, arith}
use Rattle.reduce_machine.proofs.Inner.{plain_count, fixpoint_count}
use Rattle.reduce_machine.proofs.seen.Seen.count.Goals as goal

pub returns-in-Fixpoint : goal.returns-in-Fixpoint
returns-in-Fixpoint c =
    let n = fixpoint_count c.args.self.now _ _ c.requires c.in-Fixpoint.is in
    record { is = grind arith }

pub returns-in_default : goal.returns-in_default
returns-in_default c =
    let n = plain_count c.args.self.now c.requires c.in_default.not-Fixpoint in
    record { is = grind arith }
