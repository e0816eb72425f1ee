-- The parts that the sections read so far hold.
use Rattle.wasm_core.specs.Parts.{Parts}
use Rattle.wasm_decode.specs.declared.found.Found.{Found}

abbrev pub parts_of : Found → Parts
parts_of f = record { types = f.types.items; funcs = f.funcs.items; table = f.table; memory = f.memory; globals = f.globals.items; exports = f.exports.items; elements = f.elements.items; bodies = f.bodies.items }
