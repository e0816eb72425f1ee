-- What inference finds is a principal type: it is a type, and below each.
use Rattle.calculus_rules.specs.Environment.{Env}
use Rattle.calculus_rules.specs.Context.{Context}
use Rattle.calculus_rules.proofs.Bare.{bare_types}
use Rattle.pc_rules.specs.WellCounted.{IsCountedContext}
use Rattle.rule_laws.specs.Reduction.{HasNamesOnce}
use Rattle.rule_laws.proofs.Inferring.{infer_sound}
use Rattle.rule_laws.proofs.Names.{accepted_once}
use Rattle.rule_laws.proofs.TypedCounts.{typed_counted, accepted_counted}
use Rattle.type_laws.specs.Contexts.{IsContext, empty, assume, define}
use Rattle.checked_laws.specs.InferredTypes.{InferenceFindsPrincipalTypes}
use Rattle.checked_laws.proofs.Least.{infer_least}

-- a well-formed context is well counted
context_counted : (E : Env) → HasNamesOnce E → {c : Context} → IsContext E c → IsCountedContext E c
context_counted E o empty = tt
context_counted E o (assume k (s, d)) = (typed_counted E o d, context_counted E o k)
context_counted E o (define k (s, d) p) = ((typed_counted E o p, typed_counted E o d), context_counted E o k)

pub inference_finds_principal_types : InferenceFindsPrincipalTypes
inference_finds_principal_types E h q test n c k t T u v f r = record {
  typed = bare_types (infer_sound E (accepted_counted E h).declarations q test n c t T u v (context_counted E (accepted_once E h) k) f r).typed;
  below = λ U d. infer_least E h q n c t T U u v r d;
}
