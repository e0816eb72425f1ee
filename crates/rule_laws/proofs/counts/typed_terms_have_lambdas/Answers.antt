use Rattle.rule_laws.proofs.TypedLambdas.{typed_lambdas}
use Rattle.rule_laws.proofs.counts.typed_terms_have_lambdas.Goals as goal

pub returns : goal.returns
returns c = record { typed = λ E m c t T p. typed_lambdas E p }
