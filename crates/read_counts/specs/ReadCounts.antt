-- The counts of environments that are read, as a statement.
use Rattle.pc_terms.specs.Syntax.{Term}
use Rattle.calculus_rules.specs.Environment.{Env}
use Rattle.dump_reader.specs.declared.environment.RawEnv.{RawEnv}
use Rattle.dump_reader.specs.Spelled.{IsSpelled}
use Rattle.rule_laws.specs.Declarations.{IsCheckedEnvironment}
use Rattle.env_check.specs.Rules.{givens}
use Rattle.erase_rules.specs.Laws.{AreFewCounts}

-- an environment that was read within the limits and is accepted has few counts
abbrev pub ReadCountsAreFew : Type 0
ReadCountsAreFew = (e : RawEnv) → IsSpelled e → (E : Env) (T : Term) → IsCheckedEnvironment e.levels e.constraints (givens e) e.main E T → AreFewCounts E
