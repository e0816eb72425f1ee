use Rattle.wasm_core.specs.ModuleGrammar as grammar
use Rattle.wasm_decode.proofs.Listing.{Listing}
use Rattle.wasm_decode.proofs.declarations.func_types.Given as goal

abbrev pub decreases-loop-left : goal.decreases-loop-left
decreases-loop-left l = l.left

abbrev pub invariant-loop-left : goal.invariant-loop-left
invariant-loop-left l = Listing l.fn.c l.c grammar.func_types l.left grammar.func_type l.found.items (λ xs. xs)
