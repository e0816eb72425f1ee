use Rattle.std.proofs.Common.{◌≡◌, ◌+◌, ◌-◌, ◌*◌, ◌++◌, reverse}
use Rattle.mem_value.specs.Waiting.{words}
use Rattle.mem_value.proofs.reading.put_words.Given as goal

abbrev pub invariant-loop-i : goal.invariant-loop-i
invariant-loop-i l = reverse l.waiting.items ≡ words l.memory (l.address + 4 * (l.count - l.i)) l.i ++ reverse l.fn.waiting.items
