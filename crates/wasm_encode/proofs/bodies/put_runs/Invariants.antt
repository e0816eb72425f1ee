use Rattle.std.proofs.Common.{length, reverse}
use Rattle.wasm_core.specs.ShortestBytes as shortest
use Rattle.wasm_encode.proofs.Putting.{PutsFrom}
use Rattle.wasm_encode.proofs.bodies.put_runs.Given as goal

abbrev pub decreases-loop-count : goal.decreases-loop-count
decreases-loop-count l = length l.runs.items

abbrev pub invariant-loop-count : goal.invariant-loop-count
invariant-loop-count l = PutsFrom l.fn.out.items l.out.items (shortest.put_all shortest.put_run (reverse l.runs.items)) (shortest.put_all shortest.put_run (reverse l.fn.runs.items))
