-- What a module has besides whose main applies the program's main to arguments that a host puts into memory before the run.
use Rattle.std.specs.Prelude.{List, [], ◌∷◌, codes}
use Rattle.wasm_core.specs.declared.types.GlobalDef.{GlobalDef}
use Rattle.wasm_core.specs.declared.exports.Export.{Export}
use Rattle.wasm_core.specs.declared.exports.ExportKind.TheVariants as kind
use Rattle.wasm_emit.specs.EmittedModule.{word_global}

-- the further globals and exports of a module for calls: the end of the heap, and the address of the arguments
abbrev pub call_globals : List GlobalDef
call_globals = word_global 0 ∷ []

abbrev pub call_exports : List Export
call_exports = record { name = codes "heap"; kind = kind.Global; index = 2 } ∷ record { name = codes "args"; kind = kind.Global; index = 3 } ∷ []
