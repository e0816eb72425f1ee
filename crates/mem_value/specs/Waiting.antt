-- Words that wait to be read, and the data that they stand for.
use Rattle.std.specs.Prelude.{ℕ, zero, suc, ◌≡◌, ◌+◌, ◌≤◌, List, [], ◌∷◌, ◌++◌, length}
use Rattle.wasm_core.specs.Memory.{word}
use Rattle.wasm_core.specs.WordData.{DataNodes, StandsFor, FieldsStand}
use Rattle.mem_value.specs.Tells.{most_nodes}

-- so many words from an address on
abbrev pub words : List ℕ → ℕ → ℕ → List ℕ
words memory at zero = []
words memory at (suc n) = word memory at ∷ words memory (at + 4) n

-- the words stand for data, one after the other
abbrev pub Stand : List ℕ → List ℕ → DataNodes → Type 0
Stand memory [] d = d ≡ []
Stand memory (w ∷ ws) d = (first : DataNodes) × (others : DataNodes) × (d ≡ first ++ others) × StandsFor memory w first × Stand memory ws others

-- The data of a word that stands for some begins with this node, and the fields behind it stand for the rest.
pub record IsNode (memory : List ℕ) (w : ℕ) (d : DataNodes) (number arity : ℕ) : Type 0 where
  pub fields : DataNodes
  pub is : d ≡ (number, arity) ∷ fields
  pub stand : FieldsStand memory w (w + 4) arity fields

-- A reading of a word: the nodes that are read, and the words that wait, the next first.
pub record IsReading (memory : List ℕ) (w : ℕ) (nodes : DataNodes) (waiting : List ℕ) : Type 0 where
  pub room : length nodes + length waiting ≤ most_nodes
  pub rest : DataNodes
  pub stand : Stand memory waiting rest
  pub whole : StandsFor memory w (nodes ++ rest)
