-- What inference is asked for: the environment and the context are well counted, and the environment's constraints are consistent.
use Rattle.std.specs.Prelude.{Result, Ok, Err}
use Rattle.universe_levels.specs.Consistency.{IsConsistent}
use Rattle.pc_rules.specs.declared.stop.Halt.{Halt}
use Rattle.calculus_rules.specs.Environment.{Env}
use Rattle.calculus_rules.specs.Context.{Context}
use Rattle.pc_rules.specs.WellCounted.{IsCountedContext, IsCountedEnv}

pub record IsReady (E : Env) (c : Context) : Type 0 where
  pub env : IsCountedEnv E
  pub context : IsCountedContext E c
  pub consistent : IsConsistent E.levels E.constraints

-- an answer without its result
abbrev pub done_with : {A : Type 0} → Result A Halt → Result (Unit {0}) Halt
done_with (Ok a) = Ok tt
done_with (Err h) = Err h
