use Rattle.shrink_passes.proofs.unwrapping.+unwrap.Given as goal

abbrev pub decreases-unwrap : goal.decreases-unwrap
decreases-unwrap l = l.n
