use Rattle.wasm_core.specs.ShortestBytes as shortest
use Rattle.wasm_encode.proofs.Putting.{PutsFrom}
use Rattle.wasm_encode.proofs.Sections.{put_from}
use Rattle.wasm_encode.proofs.file.put_sections.Given as goal

abbrev pub invariant-loop-at : goal.invariant-loop-at
invariant-loop-at l = PutsFrom l.fn.out.items l.out.items (put_from l.m l.at) (shortest.put_sections l.m)
