use Rattle.wasm_core.specs.ShortestBytes as shortest
use Rattle.wasm_encode.proofs.Putting.{puts_next}
use Rattle.wasm_encode.proofs.declarations.put_exports.Goals as goal

pub loop-e-preserved : goal.loop-e-preserved
loop-e-preserved c = puts_next shortest.put_export _ _ _ _ _ _ _ _ c.loop-e-test.true c.e-item.is c.loop-e.invariant c.in_ok-put_export.ensures.puts
