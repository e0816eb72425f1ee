-- What the answers of the validator's parts say.
use Rattle.std.specs.Prelude.{ℕ, ◌≡◌, ◌<◌, ◌++◌, Option, Some, None, slice_get}
use Rattle.wasm_core.specs.declared.types.FuncType.{FuncType}
use Rattle.wasm_core.specs.declared.instrs.Body.{Body}
use Rattle.wasm_core.specs.Parts.{Parts}
use Rattle.wasm_core.specs.ModuleTyping.{TypedBody, Part, id_of, IsSound, AllSound, IsValid, results_of}
use Rattle.wasm_core.specs.FirstFault.{IsFaultAt, FirstFault}
use Rattle.wasm_validate.specs.declared.validation.Why.{Why}
use Rattle.wasm_validate.specs.declared.validation.Why.TheVariants.{Invalid, Memory}

-- of a function of this type: its body has a typing, or it fails at a place
abbrev pub SaysOfBody : Parts → FuncType → Body → Option ℕ → Type 0
SaysOfBody m t b None = TypedBody m (t.params ++ b.locals) (results_of t) b.code
SaysOfBody m t b (Some p) = IsFaultAt m (t.params ++ b.locals) (results_of t) b.code p

-- of a function: it has a typing, or the place at which its body fails
abbrev pub SaysOfFunc : Parts → ℕ → Option ℕ → Type 0
SaysOfFunc m func o = (index : ℕ) × (type : FuncType) × (b : Body) × (slice_get m.funcs func ≡ Some index) × (slice_get m.types index ≡ Some type) × (slice_get m.bodies func ≡ Some b) × SaysOfBody m type b o

-- of the parts outside the bodies: all are sound, or the id of the first section with a fault
abbrev pub SaysOutside : Parts → Option ℕ → Type 0
SaysOutside m None = AllSound m
SaysOutside m (Some id) = (p : Part) × (id ≡ id_of p) × (IsSound p m → ⊥) × ((q : Part) → id_of q < id_of p → IsSound q m)

-- of a module: it has a typing, or where it first fails
abbrev pub SaysOfModule : Parts → Option (ℕ × ℕ) → Type 0
SaysOfModule m None = IsValid m
SaysOfModule m (Some fault) = FirstFault m fault.0 fault.1

-- why a module isn't valid: it has no typing, and there is where it first fails; want of memory says nothing
abbrev pub Says : Parts → Why → Type 0
Says m (Invalid func place) = FirstFault m func place × (IsValid m → ⊥)
Says m Memory = Unit {0}
