-- What bytes spell, and the first item that has no spelling in its place.
use Rattle.std.specs.Prelude.{◌≡◌, ◌⊎◌, ℕ, ◌+◌, ◌-◌, ◌*◌, ◌^◌, ◌<◌, ◌≤◌, List, [], ◌∷◌, length, take, drop, Bool, true, false, IsUtf8}
use Rattle.wasm_core.specs.Format.{Format, Give, Nothing, Byte, Number, Name, Size, Skip, End, DecodeOutcome, Accepted, Refused, outer, others}

-- ---- numbers (Core Specification, section 5.2.2): seven bits a byte, the lowest first, longer spellings within the width allowed

-- the last byte of a number that has at most this many bits more; a signed one is given by its bits
abbrev pub Lasts : (signed : Bool) → (bits : ℕ) → ℕ → ℕ → Type 0
Lasts false bits b n = (b < 128) × (b < 2 ^ bits) × (n ≡ b)
Lasts true bits b n = ((b < 64) × (b < 2 ^ (bits - 1)) × (n ≡ b)) ⊎ ((64 ≤ b) × (b < 128) × (128 - b ≤ 2 ^ (bits - 1)) × (n ≡ 2 ^ bits - (128 - b)))

abbrev pub SpellsNumber : (signed : Bool) → (bits : ℕ) → List ℕ → ℕ → Type 0
SpellsNumber s bits [] n = ⊥
SpellsNumber s bits (b ∷ []) n = Lasts s bits b n
SpellsNumber s bits (b ∷ c ∷ w) n = (128 ≤ b) × (b < 256) × (7 < bits) × ((high : ℕ) × (n ≡ b - 128 + 128 * high) × SpellsNumber s (bits - 7) (c ∷ w) high)

-- ---- items: this value is spelled by the first k bytes of those left in the part

abbrev pub SpellsByte : (fits : ℕ → Bool) → List ℕ → ℕ → ℕ → Type 0
SpellsByte fits w b k = (k ≡ 1) × ((rest : List ℕ) × (w ≡ b ∷ rest)) × (fits b ≡ true)

abbrev pub IsNumber : (signed : Bool) → (bits : ℕ) → List ℕ → ℕ → ℕ → Type 0
IsNumber s bits w n k = (k ≤ length w) × SpellsNumber s bits (take k w) n

abbrev pub IsName : List ℕ → List ℕ → ℕ → Type 0
IsName w s k = (n j : ℕ) × IsNumber false 32 w n j × (n ≤ length (drop j w)) × (s ≡ take n (drop j w)) × IsUtf8 s × (k ≡ j + n)

-- a size fits the part that holds it
abbrev pub IsSize : List ℕ → ℕ → ℕ → Type 0
IsSize w n k = IsNumber false 32 w n k × (n ≤ length (drop k w))

-- ---- what the bytes left in the part, and in those around it after that, spell

abbrev pub SpellsPart : {M : Type 0} → Format M → (w : List ℕ) → (ws : List (List ℕ)) → M → Type 0
SpellsPart (Give m) w ws x = m ≡ x
SpellsPart Nothing w ws x = ⊥
SpellsPart (Byte fits next) w ws x = (b k : ℕ) × SpellsByte fits w b k × SpellsPart (next b) (drop k w) ws x
SpellsPart (Number s bits fits next) w ws x = (n k : ℕ) × (IsNumber s bits w n k × (fits n ≡ true)) × SpellsPart (next n) (drop k w) ws x
SpellsPart (Name next) w ws x = (s : List ℕ) × (k : ℕ) × IsName w s k × SpellsPart (next s) (drop k w) ws x
SpellsPart (Size next) w ws x = (n k : ℕ) × IsSize w n k × SpellsPart (next n) (take n (drop k w)) (drop n (drop k w) ∷ ws) x
SpellsPart (Skip next) w ws x = SpellsPart next [] ws x
SpellsPart (End may over more) [] ws x = (may ≡ true) × SpellsPart over (outer ws) (others ws) x
SpellsPart (End may over more) (b ∷ w) ws x = SpellsPart more (b ∷ w) ws x

-- The first item, from left to right, that has no spelling in its place begins at `o`; these bytes begin at `at`.
abbrev pub Stops : {M : Type 0} → Format M → (at : ℕ) → (w : List ℕ) → (ws : List (List ℕ)) → ℕ → Type 0
Stops (Give m) at w ws o = ⊥
Stops Nothing at w ws o = o ≡ at
Stops (Byte fits next) at w ws o = ((o ≡ at) × ((b k : ℕ) → SpellsByte fits w b k → ⊥)) ⊎ ((b k : ℕ) × SpellsByte fits w b k × Stops (next b) (at + k) (drop k w) ws o)
Stops (Number s bits fits next) at w ws o = ((o ≡ at) × ((n k : ℕ) → IsNumber s bits w n k × (fits n ≡ true) → ⊥)) ⊎ ((n k : ℕ) × (IsNumber s bits w n k × (fits n ≡ true)) × Stops (next n) (at + k) (drop k w) ws o)
Stops (Name next) at w ws o = ((o ≡ at) × ((s : List ℕ) (k : ℕ) → IsName w s k → ⊥)) ⊎ ((s : List ℕ) × (k : ℕ) × IsName w s k × Stops (next s) (at + k) (drop k w) ws o)
Stops (Size next) at w ws o = ((o ≡ at) × ((n k : ℕ) → IsSize w n k → ⊥)) ⊎ ((n k : ℕ) × IsSize w n k × Stops (next n) (at + k) (take n (drop k w)) (drop n (drop k w) ∷ ws) o)
Stops (Skip next) at w ws o = Stops next (at + length w) [] ws o
Stops (End may over more) at [] ws o = ((o ≡ at) × (may ≡ false)) ⊎ ((may ≡ true) × Stops over at (outer ws) (others ws) o)
Stops (End may over more) at (b ∷ w) ws o = Stops more at (b ∷ w) ws o

abbrev pub MeetsFormat : {M : Type 0} → Format M → ℕ → List ℕ → List (List ℕ) → DecodeOutcome M → Type 0
MeetsFormat f at w ws (Accepted x) = SpellsPart f w ws x
MeetsFormat f at w ws (Refused o) = Stops f at w ws o
