use Rattle.std.proofs.Common.{length, reverse}
use Rattle.wasm_decode.proofs.Opens.{Instructing}
use Rattle.wasm_decode.proofs.bodies.instrs.Given as goal

abbrev pub decreases-loop-may_else : goal.decreases-loop-may_else
decreases-loop-may_else l = length l.c.rest.now

abbrev pub invariant-loop-may_else : goal.invariant-loop-may_else
invariant-loop-may_else l = Instructing l.fn.c l.c (reverse l.opens.items) l.code.items
