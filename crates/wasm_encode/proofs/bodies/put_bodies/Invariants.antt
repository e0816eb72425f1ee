use Rattle.std.proofs.Common.{drop}
use Rattle.wasm_core.specs.ShortestBytes as shortest
use Rattle.wasm_encode.proofs.Putting.{PutsFrom}
use Rattle.wasm_encode.proofs.bodies.put_bodies.Given as goal

abbrev pub invariant-loop-b : goal.invariant-loop-b
invariant-loop-b l = PutsFrom l.fn.out.items l.out.items (shortest.put_all shortest.put_body (drop l.b-index l.bs)) (shortest.put_all shortest.put_body l.bs)
