use Rattle.std.proofs.Common.{◌≡◌, slice_get}
use Rattle.pc_rules.proofs.shared_list.SharedList.get.Given as goal

abbrev pub invariant-loop-list : goal.invariant-loop-list
invariant-loop-list g l = slice_get l.list l.left ≡ slice_get l.self l.i
