-- What the directed rules accept of what is read has sound levels, and is well formed.
use Rattle.std.proofs.Common.{◌≡◌, ℕ, List, [], length, Option, Some, None, refl, subst}
use Rattle.pc_terms.specs.Syntax.{Term}
use Rattle.dump_reader.specs.declared.environment.RawEnv.{RawEnv}
use Rattle.dump_reader.specs.Spelled.{IsSpelled}
use Rattle.pc_rules.specs.declared.meter.Account.{Account}
use Rattle.calculus_rules.specs.Environment.{Env}
use Rattle.pc_rules.specs.Entailment.{entailed_by}
use Rattle.pc_rules.specs.DirectedDeclarations.{Checked, IsCycle, Accepts, first_repeated, first_undeclared_end, constraints_rule, graph_rule, declarations_rule}
use Rattle.pc_rules.proofs.Entailing.{entailed_decides}
use Rattle.rule_laws.specs.Declarations.{IsCheckedEnvironment}
use Rattle.rule_laws.proofs.Environments.{are_over, levels_passed, constraints_passed, environment_sound}
use Rattle.env_check.specs.Rules.{givens, rules_of, IsFound}
use Rattle.env_check.specs.Beginning.{HasSoundLevels}
use Rattle.env_check.proofs.ReadFormed.{read_formed}

cycle_is_none : (o : Option (List ℕ)) (go : Checked) (u : Account) (E : Env) (T : Term) (v : Account) → (graph_rule o go u).outcome ≡ Accepts E T v → o ≡ None
cycle_is_none None go u E T v h = refl
cycle_is_none (Some places) go u E T v h = absurd cc

module _ (raw : RawEnv) (cycle : Option (List ℕ)) (found : IsFound raw cycle) (n : ℕ) (u : Account) (E : Env) (T : Term) (v : Account) (accepts : (rules_of raw cycle n u).outcome ≡ Accepts E T v) where
  -- the levels are sound, and there is no cycle
  pub accepted_levels : HasSoundLevels raw × (cycle ≡ None)
  accepted_levels =
      let k = length raw.levels in
      let cs = raw.constraints in
      let go3 : Checked = declarations_rule k cs (entailed_by k cs) n 0 [] (givens raw) raw.main u in
      let go2 : Checked = graph_rule cycle go3 u in
      let go1 : Checked = constraints_rule (first_undeclared_end k 0 cs) go2 u in
      let p1 = levels_passed (first_repeated 0 [] raw.levels) go1 u E T v accepts in
      let p2 = constraints_passed (first_undeclared_end k 0 cs) go2 u E T v p1.1 in
      let none = cycle_is_none cycle go3 u E T v p2.1 in
      (record { once = p1.0; declared = p2.0; over = are_over k 0 cs p2.0; consistent = subst (IsCycle k cs) none (found p1.0 p2.0) }, none)

  pub accepted_checked : IsSpelled raw → IsCheckedEnvironment raw.levels raw.constraints (givens raw) raw.main E T
  accepted_checked spelled =
      let sound = accepted_levels.0 in
      let formed = read_formed raw spelled in
      environment_sound raw.levels raw.constraints cycle (entailed_by (length raw.levels) raw.constraints) (entailed_decides (length raw.levels) raw.constraints sound.consistent sound.over)
      (λ z. sound.consistent) n (givens raw) raw.main T E u v formed.0 formed.1 accepts
