-- Values: terms without a step, by the spines that stand in one another.
use Rattle.std.specs.Prelude.{ℕ, zero, suc, ◌≡◌, ◌++◌, [], ◌∷◌, Option, None}
use Rattle.pc_terms.specs.Syntax.{Term}
use Rattle.reduction.specs.Frames.{missing, one_less}
use Rattle.reduce_machine.specs.Spines.{spine_on, nested, below_term, AreNested}
use Rattle.reduce_machine.specs.declared.values.Value.{Value}

-- the term that a value is
abbrev pub term_of : Value → Term
term_of v = spine_on v.spine (nested v.below.items (below_term None))

-- how many arguments a term lacks that has so many more
abbrev pub lessened : ℕ → Option ℕ → Option ℕ
lessened zero o = o
lessened (suc n) o = lessened n (one_less o)

-- the number of arguments that a value lacks is that of its term, and its spines stand in one another
pub record IsValue (v : Value) : Type 0 where
  pub lacks : v.missing ≡ missing (term_of v)
  pub nested : AreNested (v.below.items ++ v.spine ∷ [])
