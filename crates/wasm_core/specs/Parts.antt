-- A module as the list of its parts (WebAssembly Core Specification, section 2.5).
use Rattle.std.specs.Prelude.{ℕ, List, Option}
use Rattle.wasm_core.specs.declared.types.FuncType.{FuncType}
use Rattle.wasm_core.specs.declared.types.Limits.{Limits}
use Rattle.wasm_core.specs.declared.types.GlobalDef.{GlobalDef}
use Rattle.wasm_core.specs.declared.exports.Export.{Export}
use Rattle.wasm_core.specs.declared.elements.Segment.{Segment}
use Rattle.wasm_core.specs.declared.instrs.Body.{Body}

-- function types, the type index of each function, the table, the memory, globals, exports, element segments, and the body of each function
pub record Parts : Type 0 where
  pub types : List FuncType
  pub funcs : List ℕ
  pub table : Option Limits
  pub memory : Option Limits
  pub globals : List GlobalDef
  pub exports : List Export
  pub elements : List Segment
  pub bodies : List Body
