use Rattle.std.proofs.Common.{drop}
use Rattle.wasm_core.specs.ShortestBytes as shortest
use Rattle.wasm_encode.proofs.Putting.{PutsFrom}
use Rattle.wasm_encode.proofs.types.put_val_types.Given as goal

abbrev pub invariant-loop-t : goal.invariant-loop-t
invariant-loop-t l = PutsFrom l.fn.out.items l.out.items (shortest.put_all shortest.put_val_type (drop l.t-index l.ts)) (shortest.put_all shortest.put_val_type l.ts)
