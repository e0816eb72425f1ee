use Rattle.std.proofs.Common.{◌≡◌, drop}
use Rattle.universe_levels.specs.Maximum.{with_parts, IsRising}
use Rattle.universe_levels.proofs.maximum.put_all.Given as goal

abbrev pub invariant-loop-part : goal.invariant-loop-part
invariant-loop-part l = record {
  rising : IsRising l.kept.items;
  value : with_parts l.kept.items (drop l.part-index l.parts) ≡ with_parts l.initial.kept.items l.parts;
}
