-- What a term keeps of its tree.
use Rattle.std.specs.Prelude.{◌≡◌, ◌+◌, ℕ, Bool, true, false}
use Rattle.stamps.specs.Number.{number}
use Rattle.pc_terms.specs.Syntax.{Term}
use Rattle.pc_terms.specs.Code.{coded_term}
use Rattle.pc_terms.specs.Formed.{IsFormed}
use Rattle.trees.specs.Measures.{depth, loose, IsWithin}

-- the number of a term, which no other term has
unfoldable pub number_of : Term → ℕ
number_of t = number (coded_term.code t)

-- the loose bound of what has variables that no binder of its own binds, by the number of the outermost, or has none
unfoldable pub loose_of : Bool → ℕ → ℕ
loose_of true outermost = outermost + 1
loose_of false outermost = 0

-- depth, loose bound and stamp
pub record IsCounted (d l n : ℕ) (t : Term) : Type 0 where
  pub depth_is : d ≡ depth t
  pub loose_is : l ≡ loose t
  pub stamp_is : n ≡ number_of t
  pub within : IsWithin t
  pub formed : IsFormed t
