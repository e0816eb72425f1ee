use Rattle.std.proofs.Common.{◌≡◌, ◌+◌, ◌*◌, length, drop}
use Rattle.wasm_core.specs.HostStore.{put_words}
use Rattle.wasm_run.proofs.hosting.put_words.Given as goal

abbrev pub invariant-loop-i : goal.invariant-loop-i
invariant-loop-i l = record {
  length : length l.memory ≡ length l.fn.memory;
  rest : put_words l.memory (l.at + 4 * l.i) (drop l.i l.words) ≡ put_words l.fn.memory l.at l.words;
}
