use Rattle.std.proofs.Common.{◌≡◌, take}
use Rattle.box_terms.proofs.program.copied_numbers.Given as goal

abbrev pub invariant-loop-n : goal.invariant-loop-n
invariant-loop-n l = l.items.items ≡ take l.n-index l.n-items
