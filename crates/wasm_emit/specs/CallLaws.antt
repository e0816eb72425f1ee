-- Main applied to arguments that a host has put into memory before the run.
use Rattle.std.specs.Prelude.{◌≡◌, ℕ, suc, ◌+◌, ◌*◌, ◌<◌, ◌≤◌, List, [], ◌∷◌, length, false}
use Rattle.anf_convert.specs.AnfData.{DataTree, Made, DataTrees, DNil, DCons}
use Rattle.wasm_core.specs.declared.types.ConstValue.TheVariants.{I32}
use Rattle.wasm_core.specs.Memory.{word}
use Rattle.wasm_core.specs.Instance.{Func}
use Rattle.wasm_core.specs.MachineStep.{Store, State, At, frame_of}
use Rattle.wasm_core.specs.WordData.{IsBlock, IsBelow}
use Rattle.anf_convert.specs.Preorder.{fields_of as count}

mutual
  -- the word stands for the data, whose blocks lie below the end of the heap
  pub data Stored (memory : List ℕ) (heap : ℕ) : ℕ → DataTree → Type 0 where
    stored_odd : {c w : ℕ} → c < 65536 → w ≡ 2 * c + 1 → Stored memory heap w (Made c DNil)
    stored_block : {c w : ℕ} {ds : DataTrees} → IsBlock memory w (count ds) c → w + 4 * suc (count ds) ≤ heap → FieldsStored memory heap w ds → Stored memory heap w (Made c ds)

  -- the fields of a block, the last one first
  pub data FieldsStored (memory : List ℕ) (heap : ℕ) : ℕ → DataTrees → Type 0 where
    no_fields : {block : ℕ} → FieldsStored memory heap block DNil
    last_field : {block : ℕ} {d : DataTree} {ds : DataTrees} → Stored memory heap (word memory (block + 4 * suc (count ds))) d → IsBelow block (word memory (block + 4 * suc (count ds))) → FieldsStored memory heap block ds → FieldsStored memory heap block (DCons d ds)

-- the words at an address stand for the arguments, the last one first
pub data ArgumentsStored (memory : List ℕ) (heap address : ℕ) : DataTrees → Type 0 where
  no_arguments : ArgumentsStored memory heap address DNil
  last_argument : {d : DataTree} {ds : DataTrees} → Stored memory heap (word memory (address + 4 * count ds)) d → address + 4 * suc (count ds) ≤ heap → ArgumentsStored memory heap address ds → ArgumentsStored memory heap address (DCons d ds)

-- what a host has made of the module's memory of at most so many pages: whole pages, which have the heap; the word at 0 is as it was
pub record IsHosted (most : ℕ) (memory : List ℕ) (pages heap address : ℕ) (ds : DataTrees) : Type 0 where
  pub whole : length memory ≡ 65536 * pages
  pub most_pages : pages ≤ most
  pub quarter : ℕ
  pub aligned : heap ≡ 4 * quarter
  pub above : 8 ≤ heap
  pub inside : heap ≤ length memory
  pub zero : word memory 0 ≡ 0
  pub arguments : ArgumentsStored memory heap address ds

abbrev pub hosted : List ℕ → ℕ → ℕ → ℕ → Store
hosted memory pages heap address = record { pages = pages; memory = memory; globals = I32 0 ∷ I32 0 ∷ I32 heap ∷ I32 address ∷ []; refused = false; by_choice = false }

-- the start of a run of a function without parameters, in the host's memory
abbrev pub call_start : Func → Store → State
call_start g store = At (record { store = store; current = frame_of g []; callers = [] })
