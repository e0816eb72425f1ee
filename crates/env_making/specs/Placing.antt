-- What a call answers that makes a part of a certificate at places of an environment, how it leaves its meter, and what it has written.
use Rattle.std.specs.Prelude.{◌≡◌, ◌++◌, Result, Ok, Err, IsTrue}
use Rattle.pc_rules.specs.DirectedPlaces.{Placed, Gives, Breaks, Spends}
use Rattle.pc_rules.specs.Follows.{IsAfter}
use Rattle.cert_rules.specs.Walk.{Items}
use Rattle.cert_rules.specs.Writing.{Wrote, wrote}
use Rattle.script_making.specs.declared.draft.Draft.{Draft}
use Rattle.env_making.specs.declared.refusal.CertRefusal.{CertRefusal}
use Rattle.env_making.specs.declared.refusal.CertRefusal.TheVariants.{Broken, Spent, TooDeep, Memory}

-- the rules give the result, and their items and account are the draft's; or they are refused, or halt, whatever was written
abbrev pub PlacedWrites : {A : Type 0} → Placed (Wrote A) → Result A CertRefusal → Draft → Draft → Type 0
PlacedWrites d (Ok a) old new = (is : Items) × (d.outcome ≡ Gives (wrote is a) new.meter.account) × (new.written.items ≡ old.written.items ++ is)
PlacedWrites d (Err (Broken p b)) old new = d.outcome ≡ Breaks p b new.meter.account
PlacedWrites d (Err Spent) old new = (d.outcome ≡ Spends) × (new.meter.account.left ≡ 0)
PlacedWrites d (Err TooDeep) old new = IsTrue d.deep
PlacedWrites d (Err Memory) old new = Unit {0}

pub record MakesPlaced {A : Type 0} (d : Placed (Wrote A)) (r : Result A CertRefusal) (old new : Draft) : Type 0 where
  pub answer : PlacedWrites d r old new
  pub after : IsAfter old.meter new.meter
