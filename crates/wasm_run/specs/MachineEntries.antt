-- The places of the entries, of `heap` and `args` where they are there.
use Rattle.std.specs.Prelude.{ℕ, ◌≡◌, Some}
use Rattle.wasm_core.specs.declared.entries.Entry.TheVariants.{Main, Memory, Result, Status, Heap, Args}
use Rattle.wasm_core.specs.Parts.{Parts}
use Rattle.wasm_core.specs.Entries.{index_of}
use Rattle.wasm_run.specs.declared.machine.Entries.{Entries}

pub record HasEntries (m : Parts) (a : Entries) : Type 0 where
  pub main : index_of Main m ≡ Some a.main
  pub memory : (i : ℕ) × (index_of Memory m ≡ Some i)
  pub result : index_of Result m ≡ Some a.result
  pub status : index_of Status m ≡ Some a.status
  pub heap : (x : ℕ) → index_of Heap m ≡ Some x → a.heap ≡ x
  pub args : (x : ℕ) → index_of Args m ≡ Some x → a.args ≡ x
