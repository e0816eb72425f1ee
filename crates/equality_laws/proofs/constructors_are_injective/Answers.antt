use Rattle.equality_laws.proofs.Roots.{settled}
use Rattle.equality_laws.proofs.Formers.{equal_constructors}
use Rattle.equality_laws.proofs.constructors_are_injective.Goals as goal

pub returns : goal.returns
returns c = record {
  equal = λ E a. equal_constructors (settled E a);
}
