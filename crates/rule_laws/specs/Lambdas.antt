-- What has a type has, in each fixpoint inside it, as many lambdas as the recursive arguments ask for: the statement.
use Rattle.pc_terms.specs.Syntax.{Term}
use Rattle.calculus_rules.specs.Environment.{Env}
use Rattle.calculus_rules.specs.Context.{Context}
use Rattle.calculus_rules.specs.Typing.{Mode, Types}
use Rattle.pc_rules.specs.FixConditions.{HasLambdas}

abbrev pub TypedHasLambdas : Type 0
TypedHasLambdas = (E : Env) (m : Mode) (c : Context) (t T : Term) → Types m E c t T → HasLambdas t
