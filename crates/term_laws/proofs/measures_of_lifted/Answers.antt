use Rattle.trees.proofs.Bounds.{depth-lift, nodes-lift, loose-lift, above-lift}
use Rattle.term_laws.proofs.measures_of_lifted.Goals as goal

pub returns : goal.returns
returns c = record {
  same_depth = λ m k t. depth-lift m k t;
  same_nodes = λ m k t. nodes-lift m k t;
  loose_below = λ m k t h. (loose-lift m k t).0 h;
  loose_above = λ m k t h. (loose-lift m k t).1 h;
  above_at_most = λ m k t. above-lift m k t;
}
