use Rattle.std.proofs.Common.{drop}
use Rattle.wasm_core.specs.ShortestBytes as shortest
use Rattle.wasm_encode.proofs.Putting.{PutsFrom}
use Rattle.wasm_encode.proofs.bodies.put_instrs.Given as goal

abbrev pub invariant-loop-i : goal.invariant-loop-i
invariant-loop-i l = PutsFrom l.fn.out.items l.out.items (shortest.put_all shortest.put_instr (drop l.i-index l.is)) (shortest.put_all shortest.put_instr l.is)
