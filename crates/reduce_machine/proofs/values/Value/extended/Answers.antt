use Rattle.reduce_machine.specs.Reads.{read}
use Rattle.reduce_machine.specs.Spines.{head_on, nested, below_term}
use Rattle.std.proofs.Common.{None}
use Rattle.reduce_machine.proofs.Binding.{last_applied}
use Rattle.reduce_machine.proofs.values.Value.extended.Goals as goal

pub returns-clause-term : goal.returns-clause-term
returns-clause-term c =
    last_applied (head_on c.args.self.spine.head (nested c.args.self.below.items (below_term None))) c.args.self.spine.args.items c.put.new.args.items c.args.argument
    c.in_ok-put.ensures.ok
