use Rattle.trees.proofs.Operations.{lift-none, lift-lift, lift-past_lift}
use Rattle.term_laws.proofs.lift_of_lift.Goals as goal

pub returns : goal.returns
returns c = record {
  none = λ k t. lift-none k t;
  merged = λ j k m n t h g. lift-lift j k m n t h g;
  exchanged = λ m n j k t h. lift-past_lift m n j k t h;
}
