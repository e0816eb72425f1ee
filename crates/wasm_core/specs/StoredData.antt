-- Data that stands in one part of a memory.
use Rattle.std.specs.Prelude.{ℕ, suc, ◌≡◌, ◌+◌, ◌*◌, ◌<◌, ◌≤◌, List, [], ◌∷◌, ◌++◌}
use Rattle.wasm_core.specs.Memory.{word}
use Rattle.wasm_core.specs.WordData.{DataNodes, IsBlock, IsBelow}

-- `StandsWithin memory low high w data`: the word stands for the data as in `StandsFor`, each constructor's number is below 65,536, and each block that
-- it reaches lies from the address low on and below high; `FieldsWithin memory low high block at left data`: so many words from an address on stand so for
-- the data, each below the block
mutual
  pub data StandsWithin (memory : List ℕ) (low high : ℕ) : ℕ → DataNodes → Type 0 where
    odd : {c w : ℕ} → c < 65536 → w ≡ 2 * c + 1 → StandsWithin memory low high w ((c, 0) ∷ [])
    block : {c arity w : ℕ} {fields : DataNodes} → IsBlock memory w arity c → low ≤ w → w + 4 + 4 * arity ≤ high → FieldsWithin memory low high w (w + 4) arity fields → StandsWithin memory low high w ((c, arity) ∷ fields)

  pub data FieldsWithin (memory : List ℕ) (low high : ℕ) : ℕ → ℕ → ℕ → DataNodes → Type 0 where
    no_field : {block at : ℕ} → FieldsWithin memory low high block at 0 []
    field : {block at left : ℕ} {first others : DataNodes} → StandsWithin memory low high (word memory at) first → IsBelow block (word memory at) → FieldsWithin memory low high block (at + 4) left others → FieldsWithin memory low high block at (suc left) (first ++ others)

-- the words from an address on stand so for these arguments, the first one first
pub data ArgumentsWithin (memory : List ℕ) (low high : ℕ) : ℕ → List DataNodes → Type 0 where
  no_argument : {at : ℕ} → ArgumentsWithin memory low high at []
  argument : {at : ℕ} {d : DataNodes} {ds : List DataNodes} → StandsWithin memory low high (word memory at) d → ArgumentsWithin memory low high (at + 4) ds → ArgumentsWithin memory low high at (d ∷ ds)
