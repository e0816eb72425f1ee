-- A binary format as a tree of the items that may come next, each with what comes after it by its value, and reading it from left to right.
use Rattle.std.specs.Prelude.{ℕ, ◌+◌, List, [], ◌∷◌, length, take, drop, Bool, false, ◌&&◌, nat_le, if◌then◌else◌, Option, Some, None}
use Rattle.std.specs.Str.{is_utf8}
use Rattle.wasm_core.specs.Leb.{number_at}

-- The item that comes next, and what comes after it. A part is the file, a section or a body.
pub data Format (M : Type 0) : Type 0 where
  -- all is there
  Give : (made : M) → Format M
  -- nothing may come here
  Nothing : Format M
  -- a byte of fixed meaning
  Byte : (fits : ℕ → Bool) → (next : ℕ → Format M) → Format M
  Number : (signed : Bool) → (bits : ℕ) → (fits : ℕ → Bool) → (next : ℕ → Format M) → Format M
  -- a length and so many bytes of UTF-8
  Name : (next : List ℕ → Format M) → Format M
  -- a number of bytes, with which a part begins that has them
  Size : (next : ℕ → Format M) → Format M
  -- the bytes of the part that are left, whatever they are
  Skip : (next : Format M) → Format M
  -- where the part has no byte left, its end, if it may end here; else what comes in it
  End : (may : Bool) → (over : Format M) → (more : Format M) → Format M

pub data DecodeOutcome (M : Type 0) : Type 0 where
  Accepted : (made : M) → DecodeOutcome M
  Refused : (offset : ℕ) → DecodeOutcome M

abbrev pub name_of : List ℕ → ℕ → ℕ → Option (List ℕ × ℕ)
name_of w n k = if nat_le n (length (drop k w)) && is_utf8 (take n (drop k w)) then Some (take n (drop k w), k + n) else None

abbrev pub at_length : List ℕ → Option (ℕ × ℕ) → Option (List ℕ × ℕ)
at_length w None = None
at_length w (Some p) = name_of w p.0 p.1

-- the name at the front of the bytes, and how many bytes it takes with its length
unfoldable pub name_at : List ℕ → Option (List ℕ × ℕ)
name_at w = at_length w (number_at false 32 w)

abbrev pub then' : {A : Type 0} {M : Type 0} → Option (A × ℕ) → DecodeOutcome M → (A → ℕ → DecodeOutcome M) → DecodeOutcome M
then' None nothing go = nothing
then' (Some p) nothing go = go p.0 p.1

abbrev pub outer : List (List ℕ) → List ℕ
outer [] = []
outer (w ∷ ws) = w

abbrev pub others : List (List ℕ) → List (List ℕ)
others [] = []
others (w ∷ ws) = ws

-- Reading from left to right, from an offset: `w` are the bytes left in the part, `ws` those of the parts around it after that.
unfoldable pub judge : {M : Type 0} → Format M → (at : ℕ) → (w : List ℕ) → (ws : List (List ℕ)) → DecodeOutcome M
judge (Give m) at w ws = Accepted m
judge Nothing at w ws = Refused at
judge (Byte fits next) at [] ws = Refused at
judge (Byte fits next) at (b ∷ w) ws = if fits b then judge (next b) (at + 1) w ws else Refused at
judge (Number s bits fits next) at w ws = then' (number_at s bits w) (Refused at) (λ n k. if fits n then judge (next n) (at + k) (drop k w) ws else Refused at)
judge (Name next) at w ws = then' (name_at w) (Refused at) (λ s k. judge (next s) (at + k) (drop k w) ws)
judge (Size next) at w ws = then' (number_at false 32 w) (Refused at) (λ n k. if nat_le n (length (drop k w)) then judge (next n) (at + k) (take n (drop k w)) (drop n (drop k w) ∷ ws) else Refused at)
judge (Skip next) at w ws = judge next (at + length w) [] ws
judge (End may over more) at [] ws = if may then judge over at (outer ws) (others ws) else Refused at
judge (End may over more) at (b ∷ w) ws = judge more at (b ∷ w) ws
