use Rattle.std.proofs.Common.{drop}
use Rattle.wasm_core.specs.ShortestBytes as shortest
use Rattle.wasm_encode.proofs.Putting.{PutsFrom}
use Rattle.wasm_encode.proofs.declarations.put_segments.Given as goal

abbrev pub invariant-loop-s : goal.invariant-loop-s
invariant-loop-s l = PutsFrom l.fn.out.items l.out.items (shortest.put_all shortest.put_segment (drop l.s-index l.ss)) (shortest.put_all shortest.put_segment l.ss)
