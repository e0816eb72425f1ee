use Rattle.std.proofs.Common.{arith}
use Rattle.trees.proofs.Closed.{loose_le_above}
use Rattle.pc_terms.specs.View.{tree_of}
use Rattle.pc_terms.proofs.term.Term.make.Goals as goal

-- a loose bound is at most the bound of all numbers
pub kept_bound-loose-requires : goal.kept_bound-loose-requires
kept_bound-loose-requires c = omega (arith, loose_le_above (tree_of c.args.node), c.loose.ensures.is, c.depth-depth.ensures.numbers)
