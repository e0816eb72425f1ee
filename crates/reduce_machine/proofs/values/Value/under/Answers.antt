use Rattle.std.proofs.Common.{refl}
use Rattle.reduce_machine.proofs.ValueParts.{under_term, under_value}
use Rattle.reduce_machine.proofs.values.Value.under.Goals as goal

pub returns-clause-term : goal.returns-clause-term
returns-clause-term c = under_term c.args.self c.args.head c.put_spine.new.spines.items c.new.result.items c.in_ok-put_spine.ensures.ok c.new.ensures.items

pub returns-clause-value : goal.returns-clause-value
returns-clause-value c = under_value c.args.self _ c.args.head c.in_ok-put_spine.ensures.ok refl refl c.requires.value c.requires.stuck
