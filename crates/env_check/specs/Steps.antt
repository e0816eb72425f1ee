-- What the steps of the check answer.
use Rattle.std.specs.Prelude.{◌≡◌, ℕ, List, [], map, reverse, take, drop, Option, Err, IsTrue}
use Rattle.pc_rules.specs.declared.broken.Place.{Place}
use Rattle.pc_rules.specs.declared.stop.Stop.TheVariants as stops
use Rattle.pc_rules.specs.declared.stop.Halt.{Halt}
use Rattle.pc_rules.specs.declared.stop.Halt.TheVariants as halts
use Rattle.pc_terms.specs.Syntax.{Term}
use Rattle.pc_rules.specs.declared.meter.Account.{Account}
use Rattle.calculus_rules.specs.Environment.{Env}
use Rattle.calculus_rules.specs.Accepted.{IsAccepted}
use Rattle.pc_rules.specs.Entailment.{test_of}
use Rattle.pc_rules.specs.DirectedRun.{Act}
use Rattle.pc_rules.specs.DirectedTyping.{infer}
use Rattle.pc_rules.specs.DirectedComparison.{compare}
use Rattle.pc_rules.specs.DirectedDeclarations.{Given, Checked, body_rule, declarations_rule}
use Rattle.rule_laws.specs.Declarations.{plain, plain_given}
use Rattle.env_check.specs.Places.{ComesTo}
use Rattle.env_check.specs.Answers.{CheckAnswers}
use Rattle.env_check.specs.declared.refusal.Refusal.{Refusal}
use Rattle.env_check.specs.declared.refusal.Refusal.TheVariants.{Broken, Spent, TooDeep, Memory}

-- what halts a step, at its place, to which the rules came with this account
abbrev pub refusal_at : Place → Account → Halt → Refusal
refusal_at p v (halts.Stop stops.Spent) = Spent p v
refusal_at p v (halts.Stop stops.TooDeep) = TooDeep p
refusal_at p v (halts.Stop stops.Memory) = Memory
refusal_at p v (halts.Broken b) = Broken p b

-- the rule of a constant's body, where n rules may stand in one another
abbrev pub body_within : Env → ℕ → Term → Option Term → Act
body_within E n = body_rule E (infer E (test_of E) n) (compare E (test_of E) n)

-- whatever main is, the declarations are refused, with that account
abbrev pub RefusesDeclarations : Env → ℕ → List Given → Account → Refusal → Account → Type 0
RefusesDeclarations E n ds u e v = (main : Term) → CheckAnswers (declarations_rule E.levels E.constraints (test_of E) n 0 [] ds main u) (Err e) v

-- a check that has come to another one
pub record LeadsTo (whole rest : Checked) : Type 0 where
  pub outcome : whole.outcome ≡ rest.outcome
  pub deep : IsTrue rest.deep → IsTrue whole.deep

-- from environment E with account u on, the first i declarations have been checked, which gave H and v: whatever main is, the rules have
-- come so far, and H keeps them with the sorts of constructor arguments
pub record HasChecked (E : Env) (n : ℕ) (ds : List Given) (u : Account) (i : ℕ) (H : Env) (v : Account) : Type 0 where
  pub leads : (main : Term) → LeadsTo (declarations_rule E.levels E.constraints (test_of E) n 0 [] ds main u)
      (declarations_rule H.levels H.constraints (test_of H) n i H.declarations (drop i ds) main v)
  pub accepted : IsAccepted H
  pub levels : H.levels ≡ E.levels
  pub constraints : H.constraints ≡ E.constraints
  pub comes : ComesTo E n ds u i H v
  pub same : map plain H.declarations ≡ reverse (map plain_given (take i ds))
