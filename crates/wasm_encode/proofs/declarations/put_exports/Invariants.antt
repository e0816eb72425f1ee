use Rattle.std.proofs.Common.{drop}
use Rattle.wasm_core.specs.ShortestBytes as shortest
use Rattle.wasm_encode.proofs.Putting.{PutsFrom}
use Rattle.wasm_encode.proofs.declarations.put_exports.Given as goal

abbrev pub invariant-loop-e : goal.invariant-loop-e
invariant-loop-e l = PutsFrom l.fn.out.items l.out.items (shortest.put_all shortest.put_export (drop l.e-index l.es)) (shortest.put_all shortest.put_export l.es)
