-- Which blocks of a memory a word needs, as marks at their places: a place is an address divided by 4.
use Rattle.std.specs.Prelude.{ℕ, ◌≡◌, ◌+◌, ◌*◌, ◌<◌, ◌⊎◌, List, Bool, true, false, get_or, length}
use Rattle.wasm_core.specs.Memory.{word}
use Rattle.wasm_core.specs.WordData.{IsBlock, IsBelow}
use Rattle.mem_value.specs.Tells.{HasData}

-- the place is marked
abbrev pub Is : List Bool → ℕ → Type 0
Is marks p = get_or marks p false ≡ true

-- field i of the block at a place
abbrev pub field_at : List ℕ → ℕ → ℕ → ℕ
field_at memory place i = word memory (4 * place + 4 + 4 * i)

-- a field of the block at a place that is odd, or the address of a marked place below
pub data IsKept (marks : List Bool) (place : ℕ) : ℕ → Type 0 where
  odd : (c : ℕ) {w : ℕ} → w ≡ 2 * c + 1 → IsKept marks place w
  address : (p : ℕ) {w : ℕ} → w ≡ 4 * p → 0 < p → p < place → Is marks p → IsKept marks place w

-- the field stands for no data, or isn't below the block
abbrev pub IsBad : List ℕ → ℕ → ℕ → Type 0
IsBad memory place w = HasData memory w → IsBelow (4 * place) w → ⊥

-- a block lies at the place, and each of its fields is kept
pub record IsSound (memory : List ℕ) (marks : List Bool) (place : ℕ) : Type 0 where
  pub arity : ℕ
  pub number : ℕ
  pub block : IsBlock memory (4 * place) arity number
  pub fields : (i : ℕ) → i < arity → IsKept marks place (field_at memory place i)

-- no mark is lost
pub record Grows (old new : List Bool) : Type 0 where
  pub len : length new ≡ length old
  pub kept : (p : ℕ) → Is old p → Is new p

-- each new mark is that of one of the first fields of the block at a place
abbrev pub MarksFields : List ℕ → ℕ → ℕ → List Bool → List Bool → Type 0
MarksFields memory place count old new = (p : ℕ) → Is new p → Is old p ⊎ ((i : ℕ) × (i < count) × (field_at memory place i ≡ 4 * p) × (p < place))

-- each new mark is below the place, and its address stands for data where that of the place does
abbrev pub MarksNeeded : List ℕ → ℕ → List Bool → List Bool → Type 0
MarksNeeded memory place old new = (p : ℕ) → Is new p → Is old p ⊎ ((p < place) × (HasData memory (4 * place) → HasData memory (4 * p)))

-- The marks of a search for what the word 4 * top needs: the marked places above `at` are sound, and each marked address stands for
-- data where the word does.
pub record IsSearched (memory : List ℕ) (top at : ℕ) (marks : List Bool) : Type 0 where
  pub len : length marks ≡ top + 1
  pub root : Is marks top
  pub sound : (p : ℕ) → at < p → Is marks p → IsSound memory marks p
  pub needed : (p : ℕ) → Is marks p → HasData memory (4 * top) → HasData memory (4 * p)
