use Rattle.std.proofs.Common.{◌≡◌, ◌++◌, drop}
use Rattle.box_text.specs.BoxText.{each_text, line_of_constant}
use Rattle.box_text.proofs.program.put_constants.Given as goal

abbrev pub invariant-loop-i : goal.invariant-loop-i
invariant-loop-i l = l.out.items ++ each_text (line_of_constant l.names) (drop l.i l.items) ≡ l.fn.out.items ++ each_text (line_of_constant l.names) l.items
