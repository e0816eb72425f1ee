use Rattle.std.proofs.Common.{length}
use Rattle.wasm_decode.specs.Found.{parts_of}
use Rattle.wasm_decode.proofs.Filing.{Filing}
use Rattle.wasm_decode.proofs.file.sections.Given as goal

abbrev pub decreases-loop-alloc : goal.decreases-loop-alloc
decreases-loop-alloc l = length l.c.rest.now

abbrev pub invariant-loop-alloc : goal.invariant-loop-alloc
invariant-loop-alloc l = Filing l.fn.c l.c (parts_of l.fn.m) l.last (parts_of l.m)
