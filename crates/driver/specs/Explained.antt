-- The answer of `explain` where the check refuses: the line that `check` ends with, and what explains it.
use Rattle.std.specs.Prelude.{ℕ, ◌≡◌, ◌-◌, List, ◌++◌, Err}
use Rattle.dump_reader.specs.declared.environment.RawEnv.{RawEnv}
use Rattle.pc_rules.specs.declared.broken.Broken.{Broken}
use Rattle.pc_rules.specs.declared.broken.Place.{Place}
use Rattle.pc_rules.specs.declared.meter.Account.{Account}
use Rattle.pc_rules.specs.DirectedRun.{most_nested}
use Rattle.env_check.specs.declared.refusal.Refusal.{Refusal as Fault}
use Rattle.env_check.specs.declared.refusal.Refusal.TheVariants as faults
use Rattle.env_check.specs.Rules.{givens}
use Rattle.env_check.specs.Places.{StandsAt, bare}
use Rattle.env_check.specs.Answers.{AnswersFound}
use Rattle.explanations.specs.Explanation.{explain_broken, explain_deep, explain_spent}
use Rattle.driver.specs.declared.refusal.Where.{Where}
use Rattle.driver.specs.declared.refusal.Refusal.TheVariants as refusals
use Rattle.driver.specs.Lines.{line_of}
use Rattle.driver.specs.Judged.{PlaceIsTold, number_of, start}
use Rattle.driver.specs.Texts.{SpellsWithin}

-- With the units of a job the directed rules refuse the environment so: this rule is broken at this place; or no unit is left at the place to which they came with
-- this account; or they pass a limit at this place.
pub record IsRefusedAs (turns : ℕ) (e : RawEnv) (r : Fault) : Type 0 where
  pub left : Account
  pub answers : AnswersFound e most_nested (start turns) (Err r) left
  pub stands : StandsAt (bare e) most_nested (givens e) e.main (start turns) r

-- a broken rule: the line, with how it tells the place, and what explains it
abbrev pub IsBrokenText : RawEnv → Place → Broken → List ℕ → Type 0
IsBrokenText e p b text = (told : Where) × PlaceIsTold e p told × (text ≡ line_of (refusals.Broken (number_of b) told) ++ explain_broken e p b)

-- units that are spent: those that were taken before the place are those of the job without the ones that were left there
abbrev pub spent_text : (turns : ℕ) → RawEnv → Place → Account → List ℕ
spent_text turns e p u = line_of refusals.TurnsSpent ++ explain_spent e (turns - u.left) p u

-- a limit that is passed
abbrev pub deep_text : RawEnv → Place → List ℕ
deep_text e p = line_of refusals.Depth ++ explain_deep e p

-- the text of a refusal of the check; want of memory has none
abbrev pub IsRefusalText : (turns : ℕ) → RawEnv → Fault → List ℕ → Type 0
IsRefusalText turns e (faults.Broken p b) text = IsBrokenText e p b text
IsRefusalText turns e (faults.Spent p u) text = text ≡ spent_text turns e p u
IsRefusalText turns e (faults.TooDeep p) text = text ≡ deep_text e p
IsRefusalText turns e faults.Memory text = ⊥

-- the environment is refused, and this is the text of that
pub record IsExplanation (turns : ℕ) (e : RawEnv) (text : List ℕ) : Type 0 where
  pub refusal : Fault
  pub refused : IsRefusedAs turns e refusal
  pub text_is : IsRefusalText turns e refusal text

-- so of the environment that the bytes spell
pub record IsExplained (turns : ℕ) (bytes text : List ℕ) : Type 0 where
  pub environment : RawEnv
  pub spelled : SpellsWithin bytes environment
  pub explains : IsExplanation turns environment text
