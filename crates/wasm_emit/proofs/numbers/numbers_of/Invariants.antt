use Rattle.std.proofs.Common.{◌-◌, length}
use Rattle.wasm_emit.proofs.Numbered.{FromPlace}
use Rattle.wasm_emit.proofs.numbers.numbers_of.Given as goal

abbrev pub invariant-loop-k : goal.invariant-loop-k
invariant-loop-k l = FromPlace l.numbers l.p.constants (length l.p.constants - l.k)
