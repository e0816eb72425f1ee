use Rattle.std.proofs.Common.{◌≡◌, take, map}
use Rattle.anf_convert.specs.ToAnf.{at_depth}
use Rattle.anf_convert.proofs.builder.atoms.Given as goal

abbrev pub invariant-loop-level : goal.invariant-loop-level
invariant-loop-level l = l.items.items ≡ map (at_depth l.depth) (take l.level-index l.levels)
