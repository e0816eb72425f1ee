use Rattle.rule_laws.proofs.TypedCounts.{typed_counted, type_of_typed, accepted_counted}
use Rattle.rule_laws.proofs.counts.typed_terms_are_well_counted.Goals as goal

pub returns : goal.returns
returns c = record {
  typed = λ E once m c t T p. typed_counted E once p;
  types = λ E once w m c t T k p. type_of_typed E once w k p;
  accepted = accepted_counted;
}
