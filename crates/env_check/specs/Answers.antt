-- What the check of a whole environment answers: the outcome of the directed rules, or want of memory. Where the rules have passed a limit,
-- the answer may be that as well.
use Rattle.std.specs.Prelude.{◌≡◌, ℕ, ◌-◌, List, Option, Result, Ok, Err, IsTrue}
use Rattle.dump_reader.specs.declared.environment.RawEnv.{RawEnv}
use Rattle.pc_rules.specs.declared.accepted.Accepted.{Accepted}
use Rattle.pc_rules.specs.declared.meter.Account.{Account}
use Rattle.pc_rules.specs.declared.meter.Meter.{Meter}
use Rattle.pc_rules.specs.DirectedDeclarations.{Checked, Accepts, Breaks, Spends}
use Rattle.pc_rules.specs.DirectedRun.{most_nested}
use Rattle.env_check.specs.declared.refusal.Refusal.{Refusal}
use Rattle.env_check.specs.declared.refusal.Refusal.TheVariants.{Broken, Spent, TooDeep, Memory}
use Rattle.env_check.specs.Rules.{rules_of, IsFound}

-- acceptance, with the environment and main's type, and refusals, with their places and what they keep, are those of the rules, with the
-- units that are left and the uses of rules; no unit is left exactly as the rules find it; a limit is passed only where the rules pass one;
-- want of memory may come at any time
abbrev pub CheckAnswers : Checked → Result Accepted Refusal → Account → Type 0
CheckAnswers d (Ok a) u = d.outcome ≡ Accepts a.env a.main_type u
CheckAnswers d (Err (Broken p b)) u = d.outcome ≡ Breaks p b u
CheckAnswers d (Err (Spent p v)) u = (d.outcome ≡ Spends) × (u.left ≡ 0)
CheckAnswers d (Err (TooDeep p)) u = IsTrue d.deep
CheckAnswers d (Err Memory) u = Unit {0}

-- with some cycle that is found of the graph
pub record AnswersFound (raw : RawEnv) (n : ℕ) (u : Account) (r : Result Accepted Refusal) (v : Account) : Type 0 where
  pub cycle : Option (List ℕ)
  pub found : IsFound raw cycle
  pub answers : CheckAnswers (rules_of raw cycle n u) r v

-- the answer of a call that begins and ends with these meters; where there is no memory nothing need be found
abbrev pub FollowsRules : RawEnv → Result Accepted Refusal → Meter → Meter → Type 0
FollowsRules raw (Err Memory) old new = Unit {0}
FollowsRules raw r old new = AnswersFound raw (most_nested - old.nest) old.account r new.account
