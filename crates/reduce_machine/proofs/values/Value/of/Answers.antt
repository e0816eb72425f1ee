use Rattle.std.proofs.Common.{map, ap, refl}
use Rattle.pc_terms.specs.Syntax.{apply}
use Rattle.reduce_machine.specs.Reads.{read}
use Rattle.reduce_machine.proofs.ValueParts.{head_value}
use Rattle.reduce_machine.proofs.values.Value.of.Goals as goal

pub returns-clause-term : goal.returns-clause-term
returns-clause-term c = ap (λ xs. apply (read c.args.head) (map read xs)) c.new.ensures.items

pub returns-clause-value : goal.returns-clause-value
returns-clause-value c =
    head_value _ c.args.head c.recursive_place-missing.result refl c.new.ensures.items c.new-2.ensures.items refl c.recursive_place-missing.ensures.lacks c.requires
