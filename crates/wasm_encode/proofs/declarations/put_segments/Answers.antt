use Rattle.wasm_core.specs.ShortestBytes as shortest
use Rattle.wasm_encode.proofs.Putting.{puts_next}
use Rattle.wasm_encode.proofs.declarations.put_segments.Goals as goal

pub loop-s-preserved : goal.loop-s-preserved
loop-s-preserved c = puts_next shortest.put_segment _ _ _ _ _ _ _ _ c.loop-s-test.true c.s-item.is c.loop-s.invariant c.in_ok-put_segment.ensures.puts
