-- How `eval` ends after the check, by the directed rules, with the units that the check left: the search for a first-order set of main's type, the
-- evaluation of main, and the reading of its value.
use Rattle.std.specs.Prelude.{ℕ, ◌≡◌, ◌≢◌, ◌⊎◌, List, IsTrue, false}
use Rattle.pc_terms.specs.Syntax.{Term}
use Rattle.pc_rules.specs.declared.meter.Account.{Account}
use Rattle.calculus_rules.specs.Environment.{Env}
use Rattle.calculus_rules.specs.FirstOrder.{Shape}
use Rattle.pc_rules.specs.DirectedRun.{Run, End, Done, Refused, NoUnit, Nested, done, bind}
use Rattle.pc_rules.specs.DirectedDeclarations.{Checked, Accepts}
use Rattle.pc_rules.specs.DirectedEvaluation.{Evaluated, Value, Stuck, evaluation}
use Rattle.pc_rules.specs.DirectedFirstOrder.{Searched, Found, NotFirstOrder, TooManyTypes, first_order_search}
use Rattle.first_order.specs.Reading.{Reading, Read, NotAt, TooMany, reading}
use Rattle.rule_laws.specs.Declarations.{IsCheckedEnvironment}
use Rattle.env_check.specs.Rules.{givens}
use Rattle.dump_reader.specs.declared.environment.RawEnv.{RawEnv}
use Rattle.driver.specs.declared.refusal.Refusal.{Refusal}
use Rattle.driver.specs.declared.refusal.Refusal.TheVariants as refusals
use Rattle.driver.specs.Judged.{IsJudged, EndsWith}

-- main's type has no first-order set, by the first type that shows it; it would need too many types; there is no rule for a term that is reached; or
-- there is a value, which is read
pub data Ended : Type 0 where
  NoSet : Term → Ended
  ManyTypes : Ended
  NoRule : Term → Ended
  IsRead : Reading → Ended

abbrev pub read_value : List Shape → Evaluated → Account → Run Ended
read_value S (Value v) u = done (IsRead (reading S v)) u
read_value S (Stuck t) u = done (NoRule t) u

abbrev pub with_set : Env → Term → Searched (List Shape) → Account → Run Ended
with_set E t (Found S) u = bind (evaluation E t u) (read_value S)
with_set E t (NotFirstOrder T) u = done (NoSet T) u
with_set E t TooManyTypes u = done ManyTypes u

-- main t of type T
abbrev pub source_rule : Env → Term → Term → Account → Run Ended
source_rule E t T u = bind (first_order_search E T u) (with_set E t)

-- the rules accept the environment, with main's type, and so many units are left
pub record IsAcceptedWith (turns : ℕ) (e : RawEnv) (E : Env) (T : Term) (u : Account) : Type 0 where
  pub rules : Checked
  pub judged : IsJudged turns e rules
  pub accepts : rules.outcome ≡ Accepts E T u

-- the run of an environment that the rules accept
pub record IsSourceRun (turns : ℕ) (e : RawEnv) (r : Run Ended) : Type 0 where
  pub kept : Env
  pub type : Term
  pub left : Account
  pub accepted : IsAcceptedWith turns e kept type left
  pub is : r ≡ source_rule kept e.main type left

-- what of the run shows a refusal
abbrev pub IsStuck : End Ended → Account → Type 0
IsStuck x w = ((t : Term) × (x ≡ Done (NoRule t) w)) ⊎ ((k : ℕ) × (x ≡ Done (IsRead (NotAt k)) w))

abbrev pub ShowsEnd : Refusal → Run Ended → Account → Type 0
ShowsEnd refusals.TurnsSpent r w = r.end ≡ NoUnit
ShowsEnd refusals.Depth r w = IsTrue r.deep
ShowsEnd refusals.NotFirstOrder r w = (T : Term) × (r.end ≡ Done (NoSet T) w)
ShowsEnd refusals.Types r w = r.end ≡ Done ManyTypes w
ShowsEnd refusals.Stuck r w = IsStuck r.end w
ShowsEnd refusals.AnswerNodes r w = r.end ≡ Done (IsRead TooMany) w
ShowsEnd _ r w = ⊥

pub record IsSourceCause (turns : ℕ) (r : Refusal) (e : RawEnv) : Type 0 where
  pub run : Run Ended
  pub of : IsSourceRun turns e run
  -- the environment is well formed, by a derivation for every declaration and for main
  pub well : IsCheckedEnvironment e.levels e.constraints (givens e) e.main of.kept of.type
  pub left : Account
  pub shows : ShowsEnd r run left

-- the status by which such a run ends (the search and evaluation break no rule)

abbrev pub reading_status : Reading → ℕ
reading_status (Read ds) = 0
reading_status (NotAt k) = 15
reading_status TooMany = 7

abbrev pub ended_status : Ended → ℕ
ended_status (NoSet T) = 10
ended_status ManyTypes = 7
ended_status (NoRule t) = 15
ended_status (IsRead r) = reading_status r

abbrev pub source_status : End Ended → ℕ
source_status (Done x u) = ended_status x
source_status (Refused b u) = 9
source_status NoUnit = 8
source_status Nested = 7

-- the check accepts, and the run ends with this status; no limit is passed
pub record SourceEndsWith (turns : ℕ) (e : RawEnv) (status : ℕ) : Type 0 where
  pub check : EndsWith turns e 0
  pub run : Run Ended
  pub of : IsSourceRun turns e run
  pub within : run.deep ≡ false
  pub status_is : status ≡ source_status run.end

-- the check doesn't accept, or it does and the run ends with this status; no limit is passed
abbrev pub EvalEndsWith : (turns : ℕ) → RawEnv → ℕ → Type 0
EvalEndsWith turns e status = (EndsWith turns e status × (status ≢ 0)) ⊎ SourceEndsWith turns e status
