-- What a call that goes along the certified walk answers, and how it leaves its trail. Where the walk has passed no limit, the call's answer is
-- the walk's end, or want of memory; where it has, the answer may be that a limit was passed as well.
use Rattle.std.specs.Prelude.{◌≡◌, ℕ, Result, Ok, Err, IsTrue}
use Rattle.pc_rules.specs.declared.meter.Account.{Account}
use Rattle.pc_rules.specs.declared.stop.Stop.TheVariants.{Spent, TooDeep, Memory}
use Rattle.pc_rules.specs.declared.stop.Halt.{Halt}
use Rattle.pc_rules.specs.declared.stop.Halt.TheVariants as halts
use Rattle.pc_rules.specs.Follows.{IsAfter}
use Rattle.pc_terms.specs.Syntax.{Term}
use Rattle.cert_rules.specs.WalkSteps.{Reduced}
use Rattle.cert_rules.specs.Walk.{WalkState, Walk, Passed, Barred, Unpaid}
use Rattle.type_cert.specs.declared.halt.WalkHalt.{WalkHalt}
use Rattle.type_cert.specs.declared.halt.WalkHalt.TheVariants as walks
use Rattle.type_cert.specs.declared.trail.Trail.{Trail}

-- where a trail stands
abbrev pub stand : Trail → WalkState
stand t = record { account = t.meter.account; at = t.at }

-- no unit is left exactly as the walk finds it; a limit is passed only where the walk passes one; want of memory may come at any time; and a
-- refusal is at the walk's item
abbrev pub WalkHalts : {A : Type 0} → Walk A → WalkHalt → Account → Type 0
WalkHalts d (walks.Stop Spent) u = (d.end ≡ Unpaid) × (u.left ≡ 0)
WalkHalts d (walks.Stop TooDeep) u = IsTrue d.deep
WalkHalts d (walks.Stop Memory) u = Unit {0}
WalkHalts d (walks.Barred i) u = d.end ≡ Barred i u

abbrev pub WalkAnswers : {A : Type 0} → Walk A → Result A WalkHalt → WalkState → Type 0
WalkAnswers d (Ok a) s = d.end ≡ Passed a s
WalkAnswers d (Err h) s = WalkHalts d h s.account

pub record Retraces {A : Type 0} (d : Walk A) (r : Result A WalkHalt) (old new : Trail) : Type 0 where
  pub answer : WalkAnswers d r (stand new)
  pub after : IsAfter old.meter new.meter

-- how a walk halts where the directed rules do: what they refuse is refused at item i
abbrev pub halt_at : ℕ → Halt → WalkHalt
halt_at i (halts.Stop s) = walks.Stop s
halt_at i (halts.Broken b) = walks.Barred i

abbrev pub barred_at : {A : Type 0} → ℕ → Result A Halt → Result A WalkHalt
barred_at i (Ok a) = Ok a
barred_at i (Err h) = Err (halt_at i h)

-- an answer without its result
abbrev pub passed_with : {A : Type 0} → Result A WalkHalt → Result (Unit {0}) WalkHalt
passed_with (Ok a) = Ok tt
passed_with (Err h) = Err h

-- a number and the term after so many steps, for which item i asks
abbrev pub at_number : ℕ → Result (ℕ × Term) WalkHalt → Result Reduced WalkHalt
at_number i (Ok p) = Ok (record { item = i; count = p.0; term = p.1 })
at_number i (Err h) = Err h
