use Rattle.wasm_core.specs.ShortestBytes as shortest
use Rattle.wasm_encode.proofs.Putting.{puts_next}
use Rattle.wasm_encode.proofs.bodies.put_instrs.Goals as goal

pub loop-i-preserved : goal.loop-i-preserved
loop-i-preserved c = puts_next shortest.put_instr _ _ _ _ _ _ _ _ c.loop-i-test.true c.i-item.is c.loop-i.invariant c.in_ok-put_instr.ensures.puts
