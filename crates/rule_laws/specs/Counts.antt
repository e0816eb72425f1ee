-- What has a type is well counted, and so is what is accepted: the statements.
use Rattle.pc_terms.specs.Syntax.{Term}
use Rattle.calculus_rules.specs.Environment.{Env}
use Rattle.calculus_rules.specs.Context.{Context}
use Rattle.calculus_rules.specs.Typing.{Mode, Types}
use Rattle.calculus_rules.specs.Accepted.{IsAccepted}
use Rattle.pc_rules.specs.WellCounted.{IsCounted, HasCountedDeclarations, IsCountedContext, IsCountedEnv}
use Rattle.rule_laws.specs.Reduction.{HasNamesOnce}

-- over an environment in which each name is declared once, what has a type, bare or guarded, is well counted
abbrev pub TypedIsWellCounted : Type 0
TypedIsWellCounted = (E : Env) → HasNamesOnce E → (m : Mode) (c : Context) (t T : Term) → Types m E c t T → IsCounted E t

-- and where environment and context are well counted, so is the type
abbrev pub TypesAreWellCounted : Type 0
TypesAreWellCounted = (E : Env) → HasNamesOnce E → HasCountedDeclarations E → (m : Mode) (c : Context) (t T : Term) → IsCountedContext E c → Types m E c t T → IsCounted E T

-- an accepted environment is well counted
abbrev pub AcceptedIsWellCounted : Type 0
AcceptedIsWellCounted = (E : Env) → IsAccepted E → IsCountedEnv E
