-- What reading a word of a memory as data answers.
use Rattle.std.specs.Prelude.{ℕ, ◌≡◌, ◌≤◌, ◌<◌, List, length, false, Some, Result, Ok, Err}
use Rattle.wasm_core.specs.declared.entries.Entry.TheVariants as entry
use Rattle.wasm_core.specs.Runs.{store_of}
use Rattle.wasm_core.specs.MachineRun.{MachineShown}
use Rattle.wasm_core.specs.Answer.{global_of}
use Rattle.wasm_core.specs.WordData.{DataNodes, StandsFor}
use Rattle.mem_value.specs.declared.fault.AnswerFault.{AnswerFault}
use Rattle.mem_value.specs.declared.fault.AnswerFault.TheVariants.{NotAValue, AnswerNodes, Memory}

-- the most nodes of an answer
abbrev pub most_nodes : ℕ
most_nodes = 4000000

-- the word stands for some data
abbrev pub HasData : List ℕ → ℕ → Type 0
HasData memory w = (d : DataNodes) × StandsFor memory w d

-- the word stands for data with more nodes than an answer may have
abbrev pub HasMany : List ℕ → ℕ → Type 0
HasMany memory w = (d : DataNodes) × StandsFor memory w d × (most_nodes < length d)

-- What reading a word answers: the data that it stands for; that it stands for none, or for more than so many nodes. Want of memory says nothing.
-- A word stands for one tree of data at most, so each answer comes exactly where it is said.
abbrev pub ReadsWord : List ℕ → ℕ → Result DataNodes AnswerFault → Type 0
ReadsWord memory w (Ok d) = StandsFor memory w d × (length d ≤ most_nodes)
ReadsWord memory w (Err (NotAValue x)) = (x ≡ w) × (HasData memory w → ⊥)
ReadsWord memory w (Err AnswerNodes) = HasMany memory w
ReadsWord memory w (Err Memory) = Unit {0}

-- the word that is read is the value of `result`, unless the machine has failed for want of memory
pub record TellsResult (a : MachineShown) (answer : Result DataNodes AnswerFault) : Type 0 where
  pub word : ℕ
  pub is_result : a.failed ≡ false → global_of entry.Result a.program (store_of a.state) ≡ Some word
  pub reads : ReadsWord (store_of a.state).memory word answer
