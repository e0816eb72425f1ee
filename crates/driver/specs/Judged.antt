-- What the directed rules say of an environment that is read, with the units of a job.
use Rattle.std.specs.Prelude.{ℕ, ◌≡◌, List, Option, Some, slice_get, replicate, IsTrue, false}
use Rattle.pc_terms.specs.declared.leaf.Name.{Name}
use Rattle.pc_terms.specs.Syntax.{Term}
use Rattle.pc_rules.specs.declared.broken.Broken.{Broken}
use Rattle.pc_rules.specs.declared.broken.Broken.TheVariants as broken
use Rattle.pc_rules.specs.declared.broken.Place.{Place}
use Rattle.pc_rules.specs.declared.broken.Place.TheVariants as at
use Rattle.pc_rules.specs.declared.meter.Account.{Account}
use Rattle.calculus_rules.specs.Environment.{Env}
use Rattle.pc_rules.specs.DirectedDeclarations.{Checked, Outcome, Gives, Breaks, Spends, Nests, Accepts}
use Rattle.dump_reader.specs.declared.declaration.RawDecl.{RawDecl}
use Rattle.dump_reader.specs.declared.declaration.RawDecl.TheVariants.{Constant, Block}
use Rattle.dump_reader.specs.declared.environment.RawEnv.{RawEnv}
use Rattle.pc_rules.specs.DirectedRun.{most_nested}
use Rattle.env_check.specs.Rules.{rules_of, IsFound}
use Rattle.driver.specs.declared.refusal.Where.{Where}
use Rattle.driver.specs.declared.refusal.Where.TheVariants as tells

-- so many units of a job, none of which is taken, and no rule is used
abbrev pub start : (turns : ℕ) → Account
start turns = record { left = turns; uses = replicate 12 0 }

-- how the check of the environment ends by the directed rules, with the cycle that is found of the graph
pub record IsJudged (turns : ℕ) (e : RawEnv) (d : Checked) : Type 0 where
  pub cycle : Option (List ℕ)
  pub found : IsFound e cycle
  pub is : d ≡ rules_of e cycle most_nested (start turns)

-- the numbers of the rules that may be broken
abbrev pub number_of : Broken → ℕ
number_of (broken.UnboundRel i n) = 1
number_of (broken.UnknownName k) = 2
number_of (broken.BadNumber i n) = 3
number_of (broken.LevelUndeclared l) = 4
number_of (broken.UniverseCycle cs) = 5
number_of (broken.NotASort t) = 6
number_of (broken.NotAProduct t) = 7
number_of (broken.NotBelow c) = 8
number_of (broken.CountWrong w g) = 9
number_of (broken.NotTheFamily t) = 10
number_of (broken.ElimNotAllowed f) = 11
number_of (broken.NotEnoughAbstractions d) = 12
number_of (broken.NotGuarded t) = 13
number_of (broken.NotPositive f c) = 14
number_of (broken.SortTooSmall s r) = 15
number_of (broken.DuplicateName k) = 16
number_of (broken.RecArgNotInductive t) = 17

abbrev pub name_of : RawDecl → Name
name_of (Constant k A b) = k
name_of (Block k ps fs) = k

-- a name of the environment's table, by its number
abbrev pub IsTableName : RawEnv → ℕ → List ℕ → Type 0
IsTableName e n name = slice_get e.names n ≡ Some name

-- how a line tells a place: a declaration by its name
abbrev pub PlaceIsTold : RawEnv → Place → Where → Type 0
PlaceIsTold e (at.Level i) tells.Levels = Unit {0}
PlaceIsTold e (at.Constraint i) tells.Constraints = Unit {0}
PlaceIsTold e (at.Declaration i) (tells.Declaration name) = (d : RawDecl) × (slice_get e.decls i ≡ Some d) × IsTableName e (name_of d).0 name.items
PlaceIsTold e at.Main tells.Main = Unit {0}
PlaceIsTold e _ _ = ⊥

-- the rules accept it; they have no end within the units; they pass a limit; they break the rule of that number at that place

pub record IsAcceptedBy (turns : ℕ) (e : RawEnv) : Type 0 where
  pub rules : Checked
  pub judged : IsJudged turns e rules
  pub kept : Env
  pub type : Term
  pub left : Account
  pub accepts : rules.outcome ≡ Accepts kept type left

pub record IsSpentBy (turns : ℕ) (e : RawEnv) : Type 0 where
  pub rules : Checked
  pub judged : IsJudged turns e rules
  pub spends : rules.outcome ≡ Spends

pub record IsTooDeepFor (turns : ℕ) (e : RawEnv) : Type 0 where
  pub rules : Checked
  pub judged : IsJudged turns e rules
  pub deep : IsTrue rules.deep

pub record IsBrokenBy (turns : ℕ) (e : RawEnv) (number : ℕ) (told : Where) : Type 0 where
  pub rules : Checked
  pub judged : IsJudged turns e rules
  pub place : Place
  pub rule : Broken
  pub left : Account
  pub breaks : rules.outcome ≡ Breaks place rule left
  pub number_is : number ≡ number_of rule
  pub told_is : PlaceIsTold e place told

-- the rules accept it, or don't, and have passed no limit till then: the status is determined but for want of memory

abbrev pub status_by : Outcome (Env × Term) → ℕ
status_by (Gives p u) = 0
status_by (Breaks p b u) = 9
status_by Spends = 8
status_by Nests = 7

pub record EndsWith (turns : ℕ) (e : RawEnv) (status : ℕ) : Type 0 where
  pub rules : Checked
  pub judged : IsJudged turns e rules
  pub within : rules.deep ≡ false
  pub status_is : status ≡ status_by rules.outcome
