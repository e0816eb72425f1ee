-- A module's functions by their parts.
use Rattle.std.specs.Prelude.{ℕ, List, [], Option, Some, None, slice_get}
use Rattle.std.specs.Option.{option_map}
use Rattle.wasm_core.specs.declared.types.ValType.{ValType}
use Rattle.wasm_core.specs.declared.types.FuncType.{FuncType}
use Rattle.wasm_core.specs.declared.instrs.Instr.{Instr}
use Rattle.wasm_core.specs.declared.instrs.Body.{Body}
use Rattle.wasm_core.specs.Parts.{Parts}
use Rattle.wasm_core.specs.Instance.{func_of}

abbrev pub code_in : Option Body → List Instr
code_in None = []
code_in (Some b) = b.code

-- the code of a function, or nothing
abbrev pub code_of : Parts → ℕ → List Instr
code_of m f = code_in (slice_get m.bodies f)

-- the type of a function, and the types of its further locals
abbrev pub type_at : Parts → ℕ → Option FuncType
type_at m f = option_map (λ g. g.type) (func_of m f)

abbrev pub locals_at : Parts → ℕ → Option (List ValType)
locals_at m f = option_map (λ g. g.body.locals) (func_of m f)
