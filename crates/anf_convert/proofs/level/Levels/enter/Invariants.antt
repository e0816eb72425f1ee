use Rattle.std.proofs.Common.{◌≡◌}
use Rattle.anf_convert.specs.ToAnf.{levels}
use Rattle.anf_convert.proofs.level.Levels.enter.Given as goal

abbrev pub invariant-loop-i : goal.invariant-loop-i
invariant-loop-i l = l.self ≡ levels l.depth l.i l.initial.self
