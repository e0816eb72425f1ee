use Rattle.trees.specs.Measures.{depth}
use Rattle.shrink_passes.proofs.unused.+spare_variables.Given as goal

abbrev pub decreases-spare_variables : goal.decreases-spare_variables
decreases-spare_variables l = depth l.t.now
