use Rattle.std.proofs.Common.{◌≡◌, take}
use Rattle.box_terms.proofs.program.BoxFamilies.copied.Given as goal

abbrev pub invariant-loop-f : goal.invariant-loop-f
invariant-loop-f l = l.items.items ≡ take l.f-index l.f-items
