-- What an entry of the table is to a call.
use Rattle.std.specs.Prelude.{ℕ, ◌≡◌, Option, Some, Result, Ok, Err, IsSome}
use Rattle.wasm_core.specs.declared.ended.TrapKind.{TrapKind}
use Rattle.wasm_core.specs.declared.types.FuncType.{FuncType}
use Rattle.wasm_core.specs.Instance.{Func, func_of}
use Rattle.wasm_core.specs.MachineStep.{Conf, State, on_entry, on_some, trap}
use Rattle.wasm_core.specs.Parts.{Parts}

-- a function that it holds is there
abbrev pub EntryIsThere : Parts → Option (Option ℕ) → Type 0
EntryIsThere m (Some (Some f)) = IsSome (func_of m f)
EntryIsThere m _ = Unit {0}

-- By this type a function of it is called, or the run traps so.
abbrev pub EntryCalls : Parts → FuncType → Option (Option ℕ) → Result ℕ TrapKind → Type 0
EntryCalls m t entry (Ok f) = (c : Conf) (go : Func → Option State) → on_entry m t entry c go ≡ on_some (func_of m f) go
EntryCalls m t entry (Err kind) = (c : Conf) (go : Func → Option State) → on_entry m t entry c go ≡ trap kind c
