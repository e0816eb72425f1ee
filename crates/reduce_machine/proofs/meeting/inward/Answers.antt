use Rattle.std.proofs.Common.{ap, arith}
use Rattle.pc_terms.specs.Syntax.{App}
use Rattle.reduce_machine.specs.Reads.{read}
use Rattle.reduce_machine.proofs.ValueParts.{next_not_stuck, next_waits, next_node, value_term}
use Rattle.reduce_machine.proofs.meeting.inward.Goals as goal

pub unreachable-requires : goal.unreachable-requires
unreachable-requires c = next_not_stuck c.args.value c.requires.value c.requires.next c.in_default.not-Open

pub returns-clause-keeps : goal.returns-clause-keeps
returns-clause-keeps c = (
  ap (λ t. App t (read c.args.argument)) (value_term c.args.value c.in-Open.fix c.in-Open.is),
  next_waits c.args.value c.in-Open.fix c.in-Open.is c.requires.next,
  next_node c.args.value c.in-Open.fix c.in-Open.is c.requires.value c.requires.next,
  omega arith,
)
