-- Whole runs of `main`, and the machine's choice of which grows to refuse.
use Rattle.std.specs.Prelude.{ℕ, zero, suc, ◌≡◌, ◌+◌, List, [], ◌∷◌, Bool, false, Option, Some, None, map, nat_le, if◌then◌else◌}
use Rattle.std.specs.Option.{option_and_then}
use Rattle.wasm_core.specs.declared.types.ConstValue.{ConstValue}
use Rattle.wasm_core.specs.declared.types.ConstValue.TheVariants.{I32, I64}
use Rattle.wasm_core.specs.declared.entries.Entry.TheVariants.{Main}
use Rattle.wasm_core.specs.Parts.{Parts}
use Rattle.wasm_core.specs.Memory.{zeroed}
use Rattle.wasm_core.specs.Instance.{Func, func_of, least, segments_fit}
use Rattle.wasm_core.specs.MachineStep.{Store, Conf, State, At, Over, step, frame_of}
use Rattle.wasm_core.specs.Entries.{index_of}

-- the store in which a run starts
abbrev pub first_store : Parts → Store
first_store m = record {
  pages = least m.memory;
  memory = zeroed (least m.memory);
  globals = map (λ g. g.init) m.globals;
  refused = false;
  by_choice = false;
}

-- the start of a run inside the frame of a function from nothing to nothing
abbrev pub start : Parts → Func → State
start m g = At (record { store = first_store m; current = frame_of g []; callers = [] })

abbrev pub start_at : Parts → ℕ → Option State
start_at m f = option_and_then (λ g. Some (start m g)) (func_of m f)

-- the start of a run of `main`: its export is there, and each element segment fits the table
abbrev pub main_start : Parts → Option State
main_start m = if segments_fit m then option_and_then (λ f. start_at m f) (index_of Main m) else None

abbrev pub store_of : State → Store
store_of (At c) = c.store
store_of (Over e store) = store

-- whether a memory of so many pages stays within a bound where it grows by the topmost operand
abbrev pub stays_within : ℕ → ℕ → List ConstValue → Bool
stays_within most pages [] = false
stays_within most pages (I32 n ∷ operands) = nat_le (pages + n) most
stays_within most pages (I64 n ∷ operands) = false

-- A machine refuses a grow exactly where the pages would pass the smaller of its bound and the module's maximum;
-- the step itself tests the maximum.
abbrev pub grants : ℕ → Conf → Bool
grants cap c = stays_within cap c.store.pages c.current.operands

-- a step of such a machine
abbrev pub Move : Parts → ℕ → State → State → Type 0
Move m cap (At c) t = step m (grants cap c) c ≡ Some t
Move m cap (Over e store) t = ⊥

-- k such steps
abbrev pub Moves : Parts → ℕ → ℕ → State → State → Type 0
Moves m cap zero s t = s ≡ t
Moves m cap (suc k) s t = (mid : State) × Moves m cap k s mid × Move m cap mid t

-- where a run has not ended there is a step, whether a grow is granted or refused
abbrev pub HasSteps : Parts → State → Type 0
HasSteps m (At c) = (granted : Bool) → (t : State) × (step m granted c ≡ Some t)
HasSteps m (Over e store) = Unit {0}
