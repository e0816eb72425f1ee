use Rattle.known_types.proofs.below.Below.of.Goals as goal

pub invariant_of-result : goal.invariant_of-result
invariant_of-result c = rw (c.in_ok-from.ensures.is, c.in_ok-world.ensures.is, c.in-Ok.ensures.same) c.requires.longer
