-- Numbers and levels as atoms.
use Rattle.std.specs.Prelude.{◌≡◌, ℕ, ◌+◌, ◌-◌, ◌*◌, List, [], ◌∷◌, Option, Some, None, Bool, false, ◌&&◌, nat_le, nat_eq, bytes_eq, if◌then◌else◌}
use Rattle.sexp_reader.specs.Text.{Text, Atom}
use Rattle.dump_grammar.specs.Keywords.{spelling}
use Rattle.dump_grammar.specs.declared.keyword.Keyword.{Keyword}
use Rattle.dump_grammar.specs.declared.keyword.Keyword.TheVariants as words

abbrev pub word : Keyword → Text
word w = Atom (spelling w)

abbrev pub is_digit : ℕ → Bool
is_digit b = nat_le 48 b && nat_le b 57

-- the digits after the number so far
abbrev pub digits_from : ℕ → List ℕ → Option ℕ
digits_from n [] = Some n
digits_from n (b ∷ bs) = if is_digit b then digits_from (n * 10 + (b - 48)) bs else None

-- a decimal number without a leading zero
unfoldable pub number_of : List ℕ → Option ℕ
number_of [] = None
number_of (b ∷ []) = digits_from 0 (b ∷ [])
number_of (b ∷ c ∷ bs) = if nat_eq b 48 then None else digits_from 0 (b ∷ c ∷ bs)

-- an atom that is a number
pub record Numeral : Type 0 where
  pub atom : List ℕ
  pub value : ℕ
  pub spelled : number_of atom ≡ Some value

-- the name of a level, which isn't Set
pub record LevelName : Type 0 where
  pub name : List ℕ
  pub other : bytes_eq name (spelling words.Set) ≡ false
