-- Data, and the words that stand for it in a memory.
use Rattle.std.specs.Prelude.{ℕ, suc, ◌≡◌, ◌+◌, ◌*◌, ◌<◌, ◌≤◌, List, [], ◌∷◌, ◌++◌, length}
use Rattle.wasm_core.specs.Memory.{word}

-- data: the nodes of a tree in preorder, each its constructor's number and its count of arguments
abbrev pub DataNodes : Type 0
DataNodes = List (ℕ × ℕ)

-- At this address a block lies in memory: it isn't 0, it is a multiple of 4, the header word has the arity, at least 1, and the
-- constructor's number, and one word for each argument follows.
pub record IsBlock (memory : List ℕ) (address arity c : ℕ) : Type 0 where
  pub quarter : ℕ
  pub aligned : address ≡ 4 * quarter
  pub there : 0 < address
  pub some : 0 < arity
  pub small : c < 65536
  pub header : word memory address ≡ arity * 65536 + c
  pub inside : address + 4 + 4 * arity ≤ length memory

-- where the word is an address, it is below this block's
abbrev pub IsBelow : ℕ → ℕ → Type 0
IsBelow block w = (q : ℕ) → w ≡ 4 * q → w < block

-- `StandsFor memory w data`: the word 2 * c + 1 stands for constructor number c without arguments, and a block's address for a
-- constructor with arguments; `FieldsStand memory block at left data`: so many words from an address on stand for the data, each below the block
mutual
  pub data StandsFor (memory : List ℕ) : ℕ → DataNodes → Type 0 where
    odd : {c w : ℕ} → w ≡ 2 * c + 1 → StandsFor memory w ((c, 0) ∷ [])
    block : {c arity w : ℕ} {fields : DataNodes} → IsBlock memory w arity c → FieldsStand memory w (w + 4) arity fields → StandsFor memory w ((c, arity) ∷ fields)

  pub data FieldsStand (memory : List ℕ) : ℕ → ℕ → ℕ → DataNodes → Type 0 where
    no_field : {block at : ℕ} → FieldsStand memory block at 0 []
    field : {block at left : ℕ} {first others : DataNodes} → StandsFor memory (word memory at) first → IsBelow block (word memory at) → FieldsStand memory block (at + 4) left others → FieldsStand memory block at (suc left) (first ++ others)
