-- The term of a value that was made now, or was at hand.
use Rattle.pc_terms.specs.Syntax.{Term}
use Rattle.reduce_machine.specs.Seen.{seen_term, IsSeen}
use Rattle.reduce_machine.specs.Values.{term_of, IsValue}
use Rattle.lazy_conversion.specs.declared.held.Held.{Held}
use Rattle.lazy_conversion.specs.declared.held.Held.TheVariants.{Made, Given}

abbrev pub held_term : Held → Term
held_term (Made v) = term_of v
held_term (Given s) = seen_term s

abbrev pub IsHeld : Held → Type 0
IsHeld (Made v) = IsValue v
IsHeld (Given s) = IsSeen s
