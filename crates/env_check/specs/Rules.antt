-- The directed rules of an environment that is read.
use Rattle.std.specs.Prelude.{◌≡◌, ℕ, List, [], map, length, Option, None}
use Rattle.dump_reader.specs.declared.environment.RawEnv.{RawEnv}
use Rattle.pc_rules.specs.declared.meter.Account.{Account}
use Rattle.pc_rules.specs.Entailment.{entailed_by}
use Rattle.pc_rules.specs.DirectedDeclarations.{Given, Checked, first_repeated, first_undeclared_end, IsCycle, environment_rule}
use Rattle.inductive_check.specs.Given.{given_of}

-- the declarations, as they are given to the rules
abbrev pub givens : RawEnv → List Given
givens raw = map given_of raw.decls

-- levels, constraints, the graph with this cycle, the declarations in order, main; n rules may stand in one another
abbrev pub rules_of : RawEnv → Option (List ℕ) → ℕ → Account → Checked
rules_of raw cycle n u =
    environment_rule raw.levels raw.constraints cycle (entailed_by (length raw.levels) raw.constraints) n (givens raw) raw.main u

-- the rules come to the graph only where no level is listed twice and the constraints name declared levels; there the cycle is one of the
-- constraints, or they have a valuation where there is none
abbrev pub IsFound : RawEnv → Option (List ℕ) → Type 0
IsFound raw cycle =
    first_repeated 0 [] raw.levels ≡ None → first_undeclared_end (length raw.levels) 0 raw.constraints ≡ None → IsCycle (length raw.levels) raw.constraints cycle
