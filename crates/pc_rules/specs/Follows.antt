-- What a call that follows directed rules answers, and how it leaves its meter. The rules are a run `d`: how they end, and whether they
-- have passed a limit till then. Where they have not, the call's answer is the end of the run, or want of memory. Where they have, the
-- answer may be that a limit was passed as well. Whatever the answer is, no more units are gone than the whole run takes.
use Rattle.std.specs.Prelude.{◌≡◌, ℕ, ◌≤◌, Result, Ok, Err, IsTrue, slice_index}
use Rattle.pc_rules.specs.declared.meter.Account.{Account}
use Rattle.pc_rules.specs.declared.meter.Meter.{Meter}
use Rattle.pc_rules.specs.declared.stop.Stop.{Stop as StopKind}
use Rattle.pc_rules.specs.declared.stop.Stop.TheVariants.{Spent, TooDeep, Memory}
use Rattle.pc_rules.specs.declared.stop.Halt.{Halt}
use Rattle.pc_rules.specs.declared.stop.Halt.TheVariants.{Stop, Broken as Refusal}
use Rattle.pc_rules.specs.DirectedRun.{Run, Done, Refused, NoUnit, Leaves}

-- as many rules stand in one another as before, no unit was won, and no use of a rule was forgotten
pub record IsAfter (old new : Meter) : Type 0 where
  pub nest : new.nest ≡ old.nest
  pub left : new.account.left ≤ old.account.left
  pub uses : (i : ℕ) → slice_index old.account.uses i ≤ slice_index new.account.uses i

-- no unit is left exactly as the rules find it; a limit is passed only where the rules pass one; want of memory may come at any time
abbrev pub Stops : {A : Type 0} → Run A → StopKind → Account → Type 0
Stops d Spent u = (d.end ≡ NoUnit) × (u.left ≡ 0)
Stops d TooDeep u = IsTrue d.deep
Stops d Memory u = Unit {0}

abbrev pub Halts : {A : Type 0} → Run A → Halt → Account → Type 0
Halts d (Stop s) u = Stops d s u
Halts d (Refusal b) u = d.end ≡ Refused b u

-- results and refusals are those of the rules, with the units that are left and the uses of rules
abbrev pub Answers : {A : Type 0} → Run A → Result A Halt → Account → Type 0
Answers d (Ok a) u = d.end ≡ Done a u
Answers d (Err h) u = Halts d h u

-- an answer without broken rules, as one that may have them
abbrev pub halted : {A : Type 0} → Result A StopKind → Result A Halt
halted (Ok a) = Ok a
halted (Err s) = Err (Stop s)

pub record Follows {A : Type 0} (d : Run A) (r : Result A Halt) (old new : Meter) : Type 0 where
  pub answer : Answers d r new.account
  pub after : IsAfter old new
  -- at least as many units are left as at the end of the run, where that tells units
  pub leaves : Leaves d.end new.account.left
