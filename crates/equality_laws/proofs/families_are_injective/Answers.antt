use Rattle.equality_laws.proofs.Roots.{settled}
use Rattle.equality_laws.proofs.Formers.{below_families}
use Rattle.equality_laws.proofs.families_are_injective.Goals as goal

pub returns : goal.returns
returns c = record {
  below = λ E a. below_families (settled E a);
}
