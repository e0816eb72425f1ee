-- What a comparison is asked for: the environment, the values that the context defines, and the terms of both sides are well counted.
use Rattle.std.specs.Prelude.{List}
use Rattle.pc_terms.specs.Syntax.{Term}
use Rattle.calculus_rules.specs.Environment.{Env}
use Rattle.calculus_rules.specs.Context.{Values}
use Rattle.pc_rules.specs.WellCounted.{AreCounted, AreCountedValues, IsCountedEnv}

pub record AreComparable (E : Env) (V : Values) (ts us : List Term) : Type 0 where
  pub env : IsCountedEnv E
  pub values : AreCountedValues E V
  pub left : AreCounted E ts
  pub right : AreCounted E us
