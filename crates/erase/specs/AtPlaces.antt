-- What a call that follows directed rules at places of an environment answers, and how it leaves its meter. The rules end with an outcome; and
-- they may have passed a limit till then, so that the answer may be that as well.
use Rattle.std.specs.Prelude.{◌≡◌, Result, Ok, Err, IsTrue}
use Rattle.box_terms.specs.declared.program.BoxProgram.{BoxProgram}
use Rattle.pc_rules.specs.declared.broken.Place.{Place}
use Rattle.pc_rules.specs.declared.meter.Account.{Account}
use Rattle.pc_rules.specs.declared.meter.Meter.{Meter}
use Rattle.pc_rules.specs.declared.stop.Stop.{Stop as StopKind}
use Rattle.pc_rules.specs.declared.stop.Stop.TheVariants.{Spent, TooDeep, Memory}
use Rattle.pc_rules.specs.declared.stop.Halt.{Halt}
use Rattle.pc_rules.specs.declared.stop.Halt.TheVariants.{Stop, Broken as Refusal}
use Rattle.pc_rules.specs.DirectedPlaces.{Placed, Gives, Breaks, Spends}
use Rattle.pc_rules.specs.Follows.{IsAfter}
use Rattle.erase_rules.specs.DirectedProgram.{Answer, Program, ReachesAxiom}
use Rattle.erase.specs.declared.refusal.HaltAt.{HaltAt}
use Rattle.erase.specs.declared.refusal.EraseRefusal.{EraseRefusal}
use Rattle.erase.specs.declared.refusal.EraseRefusal.TheVariants.{AxiomReached, Halt as Halted}

-- no unit is left exactly as the rules find it; a limit is passed only where the rules pass one; want of memory may come at any time
abbrev pub StopsAt : {A : Type 0} → Placed A → StopKind → Account → Type 0
StopsAt d Spent u = (d.outcome ≡ Spends) × (u.left ≡ 0)
StopsAt d TooDeep u = IsTrue d.deep
StopsAt d Memory u = Unit {0}

-- a refusal stands where the rules have it
abbrev pub HaltsAt : {A : Type 0} → Placed A → Place → Halt → Account → Type 0
HaltsAt d p (Stop s) u = StopsAt d s u
HaltsAt d p (Refusal b) u = d.outcome ≡ Breaks p b u

abbrev pub AnswersAt : {A : Type 0} → Placed A → Result A HaltAt → Account → Type 0
AnswersAt d (Ok a) u = d.outcome ≡ Gives a u
AnswersAt d (Err x) u = HaltsAt d x.place x.halt u

pub record FollowsAt {A : Type 0} (d : Placed A) (r : Result A HaltAt) (old new : Meter) : Type 0 where
  pub answer : AnswersAt d r new.account
  pub after : IsAfter old new

-- an answer without its place
abbrev pub halted_at : {A : Type 0} → Result A HaltAt → Result A Halt
halted_at (Ok a) = Ok a
halted_at (Err x) = Err x.halt

-- what erasure answers, as an answer of the directed rules: the axiom that is reached is one
abbrev pub answered : Result BoxProgram EraseRefusal → Result Answer HaltAt
answered (Ok P) = Ok (Program P)
answered (Err (AxiomReached k)) = Ok (ReachesAxiom k)
answered (Err (Halted p h)) = Err (record { place = p; halt = h })
