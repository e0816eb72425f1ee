use Rattle.equality_laws.proofs.Roots.{settled}
use Rattle.equality_laws.proofs.Formers.{below_sorts}
use Rattle.equality_laws.proofs.sorts_are_entailed.Goals as goal

pub returns : goal.returns
returns c = record {
  below = λ E a. below_sorts (settled E a);
}
