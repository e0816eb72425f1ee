use Rattle.std.proofs.Common.{arith}
use Rattle.trees.specs.Measures.{loose}
use Rattle.trees.proofs.Closed.{loose-closed, loose-least}
use Rattle.term_laws.proofs.loose_is_least.Goals as goal

pub returns : goal.returns
returns c = record {
  closed = λ t. loose-closed (loose t) t (omega arith);
  least = λ k t c. loose-least k t c;
}
