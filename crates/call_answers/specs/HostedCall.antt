-- A store in which a host has put the arguments of a call before the run of a module that takes them.
use Rattle.std.specs.Prelude.{ℕ, ◌≡◌, ◌+◌, ◌*◌, ◌≤◌, List, [], ◌∷◌, length, false}
use Rattle.wasm_core.specs.declared.types.ConstValue.TheVariants.{I32}
use Rattle.wasm_core.specs.Memory.{word}
use Rattle.wasm_core.specs.MachineStep.{Store}
use Rattle.wasm_core.specs.StoredData.{ArgumentsWithin}
use Rattle.wasm_core.specs.WordData.{DataNodes}

-- The module's own globals but for `heap` and `args`; whole pages, at most so many, which have the heap; the word at 0 as it was; below the heap the
-- words of the arguments, the first one first; and behind the first two words and below the heap all blocks that they reach
pub record HoldsArguments (pages : ℕ) (arguments : List DataNodes) (s : Store) : Type 0 where
  pub heap : ℕ
  pub address : ℕ
  pub globals : s.globals ≡ I32 0 ∷ I32 0 ∷ I32 heap ∷ I32 address ∷ []
  pub refused : s.refused ≡ false
  pub by_choice : s.by_choice ≡ false
  pub whole : length s.memory ≡ 65536 * s.pages
  pub few : s.pages ≤ pages
  pub quarter : ℕ
  pub aligned : heap ≡ 4 * quarter
  pub above : 8 ≤ heap
  pub inside : heap ≤ length s.memory
  pub zero : word s.memory 0 ≡ 0
  pub room : address + 4 * length arguments ≤ heap
  pub stands : ArgumentsWithin s.memory 8 heap address arguments
