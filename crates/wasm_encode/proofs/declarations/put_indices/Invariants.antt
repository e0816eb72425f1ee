use Rattle.std.proofs.Common.{drop}
use Rattle.wasm_core.specs.ShortestBytes as shortest
use Rattle.wasm_encode.proofs.Putting.{PutsFrom}
use Rattle.wasm_encode.proofs.declarations.put_indices.Given as goal

abbrev pub invariant-loop-n : goal.invariant-loop-n
invariant-loop-n l = PutsFrom l.fn.out.items l.out.items (shortest.put_all shortest.put_u32 (drop l.n-index l.ns)) (shortest.put_all shortest.put_u32 l.ns)
