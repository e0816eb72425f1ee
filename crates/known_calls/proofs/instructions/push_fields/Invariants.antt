use Rattle.std.proofs.Common.{◌≡◌, ◌++◌, drop, reverse, List}
use Rattle.wasm_core.specs.declared.instrs.Instr.{Instr}
use Rattle.known_calls.specs.KnownCode.{fill}
use Rattle.known_calls.proofs.instructions.push_fields.Given as goal

abbrev pub invariant-loop-k : goal.invariant-loop-k
invariant-loop-k l = (rest : List Instr) → l.out.items ++ fill (reverse l.places) l.d (drop l.k l.atoms) rest ≡ l.initial.out.items ++ fill (reverse l.places) l.d l.atoms rest
