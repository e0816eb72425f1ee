use Rattle.std.proofs.Common.{rules}
use Rattle.known_types.proofs.Longer.{same_next}
use Rattle.known_types.proofs.below.same_entries.Goals as goal

pub loop-i-preserved : goal.loop-i-preserved
loop-i-preserved c =
    same_next c.args.a.now c.args.b.now c.loop-i.i c.in-Some-Some.x.now c.in-Some-Some.y.now c.in-Some-Some.ensures.at c.in-Some-Some.ensures'.at (search rules) c.loop-i.invariant
