use Rattle.std.proofs.Common.{◌≡◌, ◌-◌, ◌++◌, drop, reverse}
use Rattle.first_order.specs.declared.given.Turn.TheVariants.{Later}
use Rattle.first_order.specs.Nexts.{nexts_in}
use Rattle.first_order.proofs.given.put_behind.Given as goal

abbrev pub invariant-loop-k : goal.invariant-loop-k
invariant-loop-k l = reverse l.waiting.items ≡ nexts_in Later (drop (l.count - l.k) l.places) ++ reverse l.fn.waiting.items
