-- A place of a text up to which the brackets are counted, and a way from there on: the front ends where it ends from the place behind.
use Rattle.std.specs.Prelude.{◌≡◌, ℕ, ◌+◌, ◌<◌, ◌≤◌, List, length, get_or, Bool, true, ◌||◌, nat_eq}
use Rattle.sexp_reader.specs.Lex.{is_atom_byte, left}
use Rattle.dump_reader.specs.Front.{front_end}
use Rattle.dump_reader.specs.declared.blocks.Place.{Place}
use Rattle.dump_reader.specs.declared.front.Step.{Step}
use Rattle.dump_reader.specs.declared.front.Step.TheVariants as steps

-- where the front of a text ends by the tokens from an offset on, where so many brackets are open
abbrev pub ends_from : List ℕ → (nesting at : ℕ) → ℕ
ends_from bytes nesting at = front_end (length bytes) nesting (left at bytes)

-- From one place to another behind it the front ends at the same offset, and at most 1,000 brackets are open.
pub record SameFront (bytes : List ℕ) (from to : Place) : Type 0 where
  pub behind : from.at ≤ to.at
  pub within : to.at ≤ length bytes
  pub nested : to.nesting ≤ 1000
  pub same : ends_from bytes from.nesting from.at ≡ ends_from bytes to.nesting to.at

-- what a place leads to is a place further behind, or the end of the front
abbrev pub LeadsBehind : List ℕ → Place → Step → Type 0
LeadsBehind bytes from (steps.Goes to) = (from.at < to.at) × SameFront bytes from to
LeadsBehind bytes from (steps.Ends «end») = (ends_from bytes from.nesting from.at ≡ «end») × («end» ≤ length bytes)

-- The front of a text ends at `ends` by the tokens from the start of the atom in which an offset stands, or from the offset itself; of that atom at most `size` bytes stand before the offset.
pub record CountedUpTo (bytes : List ℕ) (ends nesting at size : ℕ) : Type 0 where
  pub start : ℕ
  pub before : start ≤ at
  pub near : at ≤ start + size
  pub atom : (k : ℕ) → start ≤ k → k < at → is_atom_byte (get_or bytes k 0) ≡ true
  pub same : ends ≡ ends_from bytes nesting start

-- a byte of an atom, a space, a line end or a bracket
abbrev pub is_plain : ℕ → Bool
is_plain b = is_atom_byte b || nat_eq b 32 || nat_eq b 10 || nat_eq b 40 || nat_eq b 41

-- The bytes from an offset on, so many of them, can be counted as a whole: they open and close so many brackets, wherever the front ends, however many brackets are open before them and
-- however long the atom is that stands before them, within the limits.
abbrev pub CountsWhole : List ℕ → (at width opens closes : ℕ) → Type 0
CountsWhole bytes at width opens closes =
    (ends nesting after size : ℕ) → closes < nesting → after + closes ≡ nesting + opens → nesting + opens ≤ 1000 → size + width ≤ 256 → CountedUpTo bytes ends nesting at size
    → CountedUpTo bytes ends after (at + width) (size + width) × (0 < opens + closes → CountedUpTo bytes ends after (at + width) width)
