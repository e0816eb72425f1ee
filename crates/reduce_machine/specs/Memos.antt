-- Places for the terms that bindings are read to, and numbers of lists of them.
use Rattle.std.specs.Prelude.{ℕ, ◌≡◌, List, Option, Some, None}
use Rattle.pc_terms.specs.Syntax.{Term, Rel, apply}
use Rattle.pc_terms.specs.Counted.{number_of}

-- a place, by the number of the only term that it can have, for t
abbrev pub IsMemo : Option ℕ → Term → Type 0
IsMemo None t = Unit {0}
IsMemo (Some n) t = n ≡ number_of t

-- a number for a list of terms, which tells it from all others
abbrev pub number_of_list : List Term → ℕ
number_of_list ts = number_of (apply (Rel 0) ts)
