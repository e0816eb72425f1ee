use Rattle.wasm_decode.proofs.Listing.{Grouping}
use Rattle.wasm_decode.proofs.bodies.locals.Given as goal

abbrev pub decreases-loop-left : goal.decreases-loop-left
decreases-loop-left l = l.left

abbrev pub invariant-loop-left : goal.invariant-loop-left
invariant-loop-left l = Grouping l.fn.c l.c l.left l.found.items
