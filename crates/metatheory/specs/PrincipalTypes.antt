-- Principal types: one type of a term that is below each of its types (PCUIC, POPL 2020, section 3: principality). With subject reduction and validity it is what inference stands on.
use Rattle.pc_terms.specs.Syntax.{Term}
use Rattle.calculus_rules.specs.Environment.{Env}
use Rattle.calculus_rules.specs.Context.{Context, values}
use Rattle.calculus_rules.specs.Conversion.{Below}
use Rattle.calculus_rules.specs.Typing.{bare, Types}
use Rattle.calculus_rules.specs.Accepted.{IsAccepted}
use Rattle.type_laws.specs.Contexts.{IsContext}

-- P is a type of the term, and below each type of it
pub record IsPrincipal (E : Env) (c : Context) (t P : Term) : Type 0 where
  pub typed : Types bare E c t P
  pub below : (T : Term) → Types bare E c t T → Below E (values c) P T

-- in a well-formed context each term that has a type has a principal one
abbrev pub TermsHavePrincipalTypes : Type 0
TermsHavePrincipalTypes = (E : Env) → IsAccepted E → (c : Context) → IsContext E c → (t T : Term) → Types bare E c t T → (P : Term) × IsPrincipal E c t P
