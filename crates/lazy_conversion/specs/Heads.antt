-- Heads of values as they were written.
use Rattle.reduce_machine.specs.declared.bindings.Lazy.{Lazy}
use Rattle.reduce_machine.specs.declared.spines.Head.{Head}
use Rattle.reduce_machine.specs.declared.spines.Head.TheVariants.{Open, Match, Fixpoint}

-- a match that is stuck stands there with the scrutinee that it was written with
abbrev pub code_of : Head → Lazy
code_of (Open l) = l
code_of (Match o) = o
code_of (Fixpoint f xs) = f
