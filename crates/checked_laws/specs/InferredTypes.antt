-- Inference finds principal types: what the directed rules infer for a term is below each of its types. They need not end with a type for each term that has one: their units and nested rules are
-- bounded, and so is what they make.
use Rattle.std.specs.Prelude.{◌≡◌, ℕ, List, [], Option}
use Rattle.universe_levels.specs.declared.constraint.Constraint.{Constraint}
use Rattle.universe_levels.specs.declared.level.Level.{Level}
use Rattle.pc_terms.specs.Syntax.{Term}
use Rattle.pc_terms.specs.Formed.{IsFormed}
use Rattle.pc_rules.specs.declared.meter.Account.{Account}
use Rattle.calculus_rules.specs.Environment.{Env}
use Rattle.calculus_rules.specs.Context.{Context, values}
use Rattle.calculus_rules.specs.Conversion.{Below}
use Rattle.calculus_rules.specs.Typing.{bare, Types}
use Rattle.calculus_rules.specs.Accepted.{IsAccepted}
use Rattle.pc_rules.specs.DirectedRun.{Done}
use Rattle.pc_rules.specs.DirectedComparison.{Test, IsTest}
use Rattle.pc_rules.specs.DirectedDeclarations.{Given, Accepts, environment_rule}
use Rattle.pc_rules.specs.DirectedTyping.{infer}
use Rattle.type_laws.specs.Contexts.{IsContext}
use Rattle.metatheory.specs.PrincipalTypes.{IsPrincipal}

-- in any context, whatever test, units and nested rules the inference is given, what it finds is below each type of the term
abbrev pub InferredTypesAreLeast : Type 0
InferredTypesAreLeast =
    (E : Env) → IsAccepted E → (q : Test) (n : ℕ) (c : Context) (t T U : Term) (u v : Account) → (infer E q n c t u).end ≡ Done T v → Types bare E c t U →
    Below E (values c) T U

-- in a well-formed context, where the test decides entailment and the term is formed as terms in memory are, it is a principal type
abbrev pub InferenceFindsPrincipalTypes : Type 0
InferenceFindsPrincipalTypes =
    (E : Env) → IsAccepted E → (q : Test) → IsTest E.levels E.constraints q → (n : ℕ) (c : Context) → IsContext E c → (t T : Term) (u v : Account) → IsFormed t →
    (infer E q n c t u).end ≡ Done T v → IsPrincipal E c t T

-- so the type that the rules of a whole environment find for main is below each type of main
abbrev pub MainsTypeIsLeast : Type 0
MainsTypeIsLeast =
    (levels : List Level) (cs : List Constraint) (cycle : Option (List ℕ)) (q : Test) (n : ℕ) (ds : List Given) (main : Term) (E : Env) (T : Term) (u v : Account) →
    (environment_rule levels cs cycle q n ds main u).outcome ≡ Accepts E T v → IsAccepted E → (U : Term) → Types bare E [] main U → Below E [] T U
