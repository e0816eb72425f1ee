-- What a script is asked for: the environment, the values that the context defines, and both terms are well counted.
use Rattle.std.specs.Prelude.{ℕ, Bool, Result, Ok, Err, if◌then◌else◌}
use Rattle.type_cert.specs.declared.halt.WalkHalt.{WalkHalt}
use Rattle.type_cert.specs.declared.halt.WalkHalt.TheVariants.{Barred}
use Rattle.pc_terms.specs.Syntax.{Term}
use Rattle.calculus_rules.specs.Environment.{Env}
use Rattle.calculus_rules.specs.Context.{Values}
use Rattle.pc_rules.specs.WellCounted.{IsCounted, AreCountedValues, IsCountedEnv}

pub record AreScriptable (E : Env) (V : Values) (a b : Term) : Type 0 where
  pub env : IsCountedEnv E
  pub values : AreCountedValues E V
  pub left : IsCounted E a
  pub right : IsCounted E b

-- what a `k` at item i answers for two terms that have no parts
abbrev pub leaf_answer : Bool → ℕ → Result (Unit {0}) WalkHalt
leaf_answer x i = if x then Ok tt else Err (Barred i)
