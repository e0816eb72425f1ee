use Rattle.std.proofs.Common.{drop}
use Rattle.wasm_core.specs.ShortestBytes as shortest
use Rattle.wasm_encode.proofs.Putting.{PutsFrom}
use Rattle.wasm_encode.proofs.declarations.put_globals.Given as goal

abbrev pub invariant-loop-g : goal.invariant-loop-g
invariant-loop-g l = PutsFrom l.fn.out.items l.out.items (shortest.put_all shortest.put_global (drop l.g-index l.gs)) (shortest.put_all shortest.put_global l.gs)
