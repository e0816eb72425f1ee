use Rattle.std.proofs.Common.{◌≡◌, ◌-◌, ◌++◌, drop, reverse}
use Rattle.first_order.specs.Texts.{slots}
use Rattle.first_order.proofs.texts.put_slots.Given as goal

abbrev pub invariant-loop-k : goal.invariant-loop-k
invariant-loop-k l = reverse l.waiting.items ≡ slots (drop (l.count - l.k) l.places) l.closes ++ reverse l.fn.waiting.items
