use Rattle.std.proofs.Common.{◌≡◌, ◌≤◌, ◌+◌, length, slice_get}
use Rattle.reduce_machine.proofs.bindings.Bindings.from.Given as goal

abbrev pub invariant-loop-list : goal.invariant-loop-list
invariant-loop-list l = record {
  get : slice_get l.list.items l.left ≡ slice_get l.self.items l.i;
  past : l.left + length l.self.items ≡ l.i + length l.list.items;
  rank : l.list.rank ≤ l.self.rank;
}
