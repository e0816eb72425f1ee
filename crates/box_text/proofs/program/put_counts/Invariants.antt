use Rattle.std.proofs.Common.{◌≡◌, ◌++◌, drop}
use Rattle.box_text.specs.BoxText.{each_text, count_text}
use Rattle.box_text.proofs.program.put_counts.Given as goal

abbrev pub invariant-loop-i : goal.invariant-loop-i
invariant-loop-i l = l.out.items ++ each_text count_text (drop l.i l.items) ≡ l.fn.out.items ++ each_text count_text l.items
