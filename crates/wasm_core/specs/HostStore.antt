-- Runs of `main` from a store that a host has made ready: with words put into memory, and with the globals `heap` and `args`.
use Rattle.std.specs.Prelude.{ℕ, ◌≡◌, ◌+◌, ◌-◌, ◌*◌, ◌/◌, List, [], ◌∷◌, ◌++◌, length, Bool, ◌&&◌, Option, Some, None, nat_le, if◌then◌else◌, min, slice_set}
use Rattle.std.specs.Option.{option_and_then}
use Rattle.wasm_core.specs.declared.types.ConstValue.TheVariants.{I32}
use Rattle.wasm_core.specs.declared.entries.Entry.{Entry}
use Rattle.wasm_core.specs.declared.entries.Entry.TheVariants.{Main, Heap, Args}
use Rattle.wasm_core.specs.Parts.{Parts}
use Rattle.wasm_core.specs.Memory.{put_word, zeroed}
use Rattle.wasm_core.specs.Instance.{Func, func_of, segments_fit, greatest_pages}
use Rattle.wasm_core.specs.MachineStep.{Store, State, At, Over, frame_of}
use Rattle.wasm_core.specs.Entries.{index_of}
use Rattle.wasm_core.specs.Safe.{HaveTypes, global_types}
use Rattle.wasm_core.specs.Words.{IsStore}

-- the start of a run inside the frame of a function from nothing to nothing, in this store
abbrev pub start_in : Store → Func → State
start_in s g = At (record { store = s; current = frame_of g []; callers = [] })

abbrev pub start_at_in : Parts → Store → ℕ → Option State
start_at_in m s f = option_and_then (λ g. Some (start_in s g)) (func_of m f)

-- the start of a run of `main` in this store: its export is there, and each element segment fits the table
abbrev pub main_start_in : Parts → Store → Option State
main_start_in m s = if segments_fit m then option_and_then (λ f. start_at_in m s f) (index_of Main m) else None

-- a store in which a run may start: its globals have the module's types, its numbers are within theirs, and its memory is whole pages of bytes
pub record IsReady (m : Parts) (s : Store) : Type 0 where
  pub typed : HaveTypes s.globals (global_types m)
  pub words : IsStore s

-- the state with another store
abbrev pub with_store : State → Store → State
with_store (At c) s = At (record c { store = s })
with_store (Over e old) s = Over e s

-- the module exports `heap` and `args` as a host asks that gives arguments
pub record IsForCall (m : Parts) : Type 0 where
  pub heap_at : ℕ
  pub heap : index_of Heap m ≡ Some heap_at
  pub args_at : ℕ
  pub args : index_of Args m ≡ Some args_at

abbrev pub set_at : Option ℕ → ℕ → Store → Store
set_at None w s = s
set_at (Some x) w s = record s { globals = slice_set s.globals x (I32 w) }

-- the store with an i32 in the global of an entry
abbrev pub set_entry : Entry → Parts → ℕ → Store → Store
set_entry n m w s = set_at (index_of n m) w s

-- the memory with words put one after the other from an address on
abbrev pub put_words : List ℕ → ℕ → List ℕ → List ℕ
put_words memory a [] = memory
put_words memory a (w ∷ ws) = put_words (put_word memory a w) (a + 4) ws

-- the fewest pages that have so many bytes
abbrev pub pages_for : ℕ → ℕ
pages_for size = (size + 65535) / 65536

-- the store with the fewest further pages of zeros with which its memory has so many bytes
abbrev pub held : ℕ → Store → Store
held size s = record s { pages = s.pages + (pages_for size - s.pages); memory = s.memory ++ zeroed (pages_for size - s.pages) }

-- whether a host may put words up to an address: it is a word, and the pages stay within the bound and the module's maximum
abbrev pub has_room : Parts → ℕ → ℕ → Bool
has_room m cap past = nat_le past 4294967295 && nat_le (pages_for past) (min cap (greatest_pages m.memory))

-- the store with words put at an address, where memory grows by the fewest pages, and with `heap` past them
abbrev pub with_block : Parts → ℕ → List ℕ → Store → Store
with_block m at words s =
    set_entry Heap m (at + 4 * length words) (record (held (at + 4 * length words) s) { memory = put_words (held (at + 4 * length words) s).memory at words })
