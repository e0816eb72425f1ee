-- The parts of a module with workers, in the pieces in which emission makes them.
use Rattle.std.specs.Prelude.{ℕ, List, [], ◌∷◌, ◌++◌, map}
use Rattle.closure_lift.specs.Lifted.{Fn, Program}
use Rattle.wasm_core.specs.declared.types.GlobalDef.{GlobalDef}
use Rattle.wasm_core.specs.declared.exports.Export.{Export}
use Rattle.wasm_core.specs.declared.instrs.Body.{Body}
use Rattle.wasm_core.specs.Parts.{Parts}
use Rattle.wasm_emit.specs.EmittedModule.{room_function, box_function}
use Rattle.known_calls.specs.KnownModule.{entry, worker, worker_type, numbered, constant, in_order, module_of}

-- the bodies of the functions before main, in the order of their indices
abbrev pub bodies_before_main : Program → List Body
bodies_before_main P = room_function ∷ box_function ∷ (numbered (entry P) 0 P.functions ++ map (constant P) P.constants)

-- the bodies of all functions, with this one for main
abbrev pub bodies_with : Program → Body → List Body
bodies_with P main = room_function ∷ box_function ∷ in_order P (entry P) (constant P) main (worker P)

-- the numbers of the workers' types
abbrev pub worker_types : List Fn → List ℕ
worker_types [] = []
worker_types (f ∷ fs) = worker_type f ∷ worker_types fs

-- the parts of a module with these bodies, globals and exports, whose memory may have at most so many pages
abbrev pub parts_with : Program → List Body → List GlobalDef → List Export → ℕ → Parts
parts_with P bodies globals exports pages = record (module_of P pages) { bodies = bodies; globals = globals; exports = exports }
