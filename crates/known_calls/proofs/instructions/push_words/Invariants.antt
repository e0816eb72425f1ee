use Rattle.std.proofs.Common.{reverse, take}
use Rattle.wasm_emit.specs.Pushed.{Pushed}
use Rattle.known_calls.specs.KnownCode.{push_words}
use Rattle.known_calls.proofs.instructions.push_words.Given as goal

abbrev pub invariant-loop-w : goal.invariant-loop-w
invariant-loop-w l = Pushed l.initial.out.items l.out.items (push_words (reverse (take l.w-index l.w-items)))
