-- Values that were made along a script, or were at hand.
use Rattle.pc_terms.specs.Syntax.{Term}
use Rattle.reduce_machine.specs.Seen.{seen_term, IsSeen}
use Rattle.reduce_machine.specs.Values.{term_of, IsValue}
use Rattle.type_cert.specs.declared.taken.Taken.{Taken}
use Rattle.type_cert.specs.declared.taken.Taken.TheVariants.{Made, Given}

abbrev pub taken_term : Taken → Term
taken_term (Made v) = term_of v
taken_term (Given s) = seen_term s

abbrev pub IsTaken : Taken → Type 0
IsTaken (Made v) = IsValue v
IsTaken (Given s) = IsSeen s
