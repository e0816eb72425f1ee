-- Data put into the memory of a machine before its run: each node of a tree in preorder, the last one first, so that a block's fields lie before it.
use Rattle.std.specs.Prelude.{ℕ, zero, suc, ◌≡◌, ◌+◌, ◌*◌, ◌<◌, ◌≤◌, List, [], ◌∷◌, length, take, drop, false, true, Option, Some, None, Result, Ok, Err, if◌then◌else◌}
use Rattle.std.specs.Option.{option_map, option_and_then}
use Rattle.wasm_core.specs.declared.entries.Entry.TheVariants.{Heap, Args}
use Rattle.wasm_core.specs.Parts.{Parts}
use Rattle.wasm_core.specs.Memory.{byte}
use Rattle.wasm_core.specs.MachineStep.{Store}
use Rattle.wasm_core.specs.Runs.{store_of}
use Rattle.wasm_core.specs.WordData.{DataNodes}
use Rattle.wasm_core.specs.ModuleCondition.{All as Each}
use Rattle.wasm_core.specs.Answer.{global_of}
use Rattle.wasm_core.specs.HostStore.{with_store, with_block, set_entry, has_room, held}
use Rattle.wasm_core.specs.StoredData.{ArgumentsWithin}
use Rattle.wasm_core.specs.MachineRun.{MachineShown}
use Rattle.mem_value.specs.declared.store_fault.StoreFault.{StoreFault}
use Rattle.mem_value.specs.declared.store_fault.StoreFault.TheVariants.{Exhausted, Failed, Memory}

-- a store, and the words of the trees that were put there and aren't fields of others so far, the first tree first
pub record Stacked : Type 0 where
  pub store : Store
  pub words : List ℕ

-- words put at this value of `heap`: their address, and the store with them; nothing where there is no room
abbrev pub put_at : Parts → ℕ → List ℕ → Store → Option ℕ → Option (ℕ × Store)
put_at m cap words s None = None
put_at m cap words s (Some at) = if has_room m cap (at + 4 * length words) then Some (at, with_block m at words s) else None

abbrev pub put_block : Parts → ℕ → List ℕ → Store → Option (ℕ × Store)
put_block m cap words s = put_at m cap words s (global_of Heap m s)

-- the first word of a block
abbrev pub header : ℕ → ℕ → ℕ
header arity c = arity * 65536 + c

abbrev pub with_word : List ℕ → ℕ × Store → Stacked
with_word words p = record { store = p.1; words = p.0 ∷ words }

-- constructor c with this count of arguments, whose words are the first ones: an odd word, or the address of a block with the header and these words
abbrev pub put_node : Parts → ℕ → (c arity : ℕ) → Stacked → Option Stacked
put_node m cap c zero a = Some (record a { words = (2 * c + 1) ∷ a.words })
put_node m cap c (suc n) a = option_map (with_word (drop (suc n) a.words)) (put_block m cap (header (suc n) c ∷ take (suc n) a.words) a.store)

-- the nodes of trees in preorder, the last one first
abbrev pub put_nodes : Parts → ℕ → DataNodes → Stacked → Option Stacked
put_nodes m cap [] a = Some a
put_nodes m cap (node ∷ rest) a = option_and_then (put_node m cap node.0 node.1) (put_nodes m cap rest a)

-- the trees of a list, the last one first
abbrev pub put_trees : Parts → ℕ → List DataNodes → Stacked → Option Stacked
put_trees m cap [] a = Some a
put_trees m cap (d ∷ ds) a = option_and_then (put_nodes m cap d) (put_trees m cap ds a)

-- the words as a block without a header, and its address in `args`
abbrev pub put_last : Parts → ℕ → Stacked → Option Store
put_last m cap a = option_map (λ p. set_entry Args m p.0 p.1) (put_block m cap a.words a.store)

-- the arguments, and behind them their words
abbrev pub put_arguments : Parts → ℕ → List DataNodes → Store → Option Store
put_arguments m cap ds s = option_and_then (put_last m cap) (put_trees m cap ds (record { store = s; words = [] }))

-- a constructor's number and its count of arguments fit a block's header
abbrev pub IsSmallNode : ℕ × ℕ → Type 0
IsSmallNode node = (node.0 < 65536) × (node.1 < 65536)

-- each node of the data does
abbrev pub IsSmallData : DataNodes → Type 0
IsSmallData d = Each IsSmallNode d

-- `heap` is an address that a host's blocks may begin at: a multiple of 4 other than 0, at most the memory's size
pub record HasHeap (m : Parts) (s : Store) : Type 0 where
  pub heap : ℕ
  pub is : global_of Heap m s ≡ Some heap
  pub quarter : ℕ
  pub aligned : heap ≡ 4 * quarter
  pub there : 0 < heap
  pub inside : heap ≤ length s.memory

-- The store holds the arguments: from the first `heap` up to the present one lie their blocks, and then one word for each argument. Memory below is as
-- it was, it has grown by the fewest pages, `heap` and `args` are set, and all else is as it was.
pub record HasStored (m : Parts) (cap : ℕ) (old new : Store) (ds : List DataNodes) : Type 0 where
  pub first : ℕ
  pub was : global_of Heap m old ≡ Some first
  pub past : ℕ
  pub address : ℕ
  pub memory : List ℕ
  pub is : new ≡ set_entry Args m address (set_entry Heap m past (record (held past old) { memory = memory }))
  pub size : length memory ≡ length (held past old).memory
  pub inside : past ≤ length memory
  pub kept : (x : ℕ) → x < first → byte memory x ≡ byte old.memory x
  pub room : has_room m cap past ≡ true
  pub quarter : ℕ
  pub aligned : address ≡ 4 * quarter
  pub begins : first ≤ address
  pub ends : past ≡ address + 4 * length ds
  pub arguments : ArgumentsWithin memory first past address ds

-- What one call that puts words says, by its answer.
abbrev pub PutSays : MachineShown → MachineShown → List ℕ → Result ℕ StoreFault → Type 0
PutSays old new words (Ok at) = (old.failed ≡ false) × ((s : Store) × (put_block old.program old.cap words (store_of old.state) ≡ Some (at, s)) × (new ≡ record old { state = with_store old.state s }))
PutSays old new words (Err Exhausted) = (old.failed ≡ false) × (new.failed ≡ false) × (put_block old.program old.cap words (store_of old.state) ≡ None)
PutSays old new words (Err Failed) = (old.failed ≡ true) × (new.failed ≡ true)
PutSays old new words (Err Memory) = Unit {0}

-- What a call says that puts nodes on the words that wait, where `o` is what putting them gives.
abbrev pub StackSays : MachineShown → MachineShown → List ℕ → Option Stacked → Result (Unit {0}) StoreFault → Type 0
StackSays old new words o (Ok u) = (s : Store) × (o ≡ Some (record { store = s; words = words })) × (new ≡ record old { state = with_store old.state s })
StackSays old new words o (Err Exhausted) = (old.failed ≡ false) × (new.failed ≡ false) × (o ≡ None)
StackSays old new words o (Err Failed) = (old.failed ≡ true) × (new.failed ≡ true)
StackSays old new words o (Err Memory) = Unit {0}

-- What storing arguments says by its answer: they are stored; there was no room for a block; the machine had failed. Want of memory says nothing.
abbrev pub StoreSays : MachineShown → MachineShown → List DataNodes → Result (Unit {0}) StoreFault → Type 0
StoreSays old new ds (Ok u) =
    (old.failed ≡ false) × ((s : Store) × (put_arguments old.program old.cap ds (store_of old.state) ≡ Some s) × HasStored old.program old.cap (store_of old.state) s ds × (new ≡ record old { state = with_store old.state s }))
StoreSays old new ds (Err Exhausted) = (old.failed ≡ false) × (new.failed ≡ false) × (put_arguments old.program old.cap ds (store_of old.state) ≡ None)
StoreSays old new ds (Err Failed) = (old.failed ≡ true) × (new.failed ≡ true)
StoreSays old new ds (Err Memory) = Unit {0}
