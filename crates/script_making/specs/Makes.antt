-- What a call that makes a certificate answers, how it leaves its meter, and what it has written. Where the directed rule that writes is done, so
-- is the call, unless there is no memory, and the run's items stand behind what was written before; where that halts, so does the call.
use Rattle.std.specs.Prelude.{◌≡◌, ℕ, ◌++◌, Result, Ok, Err}
use Rattle.pc_terms.specs.Syntax.{Term}
use Rattle.pc_rules.specs.declared.stop.Halt.{Halt}
use Rattle.pc_rules.specs.DirectedRun.{Run, Done}
use Rattle.pc_rules.specs.Follows.{IsAfter, Halts}
use Rattle.cert_rules.specs.Walk.{Items}
use Rattle.cert_rules.specs.Writing.{Wrote, wrote}
use Rattle.script_making.specs.declared.draft.Draft.{Draft}

-- the run ends with the result, and its items and account are the draft's; or it halts as the directed rules do, whatever was written
abbrev pub Writes : {A : Type 0} → Run (Wrote A) → Result A Halt → Draft → Draft → Type 0
Writes d (Ok a) old new = (is : Items) × (d.end ≡ Done (wrote is a) new.meter.account) × (new.written.items ≡ old.written.items ++ is)
Writes d (Err h) old new = Halts d h new.meter.account

pub record Makes {A : Type 0} (d : Run (Wrote A)) (r : Result A Halt) (old new : Draft) : Type 0 where
  pub answer : Writes d r old new
  pub after : IsAfter old.meter new.meter

-- an answer without its number
abbrev pub without_count : Result (ℕ × Term) Halt → Result Term Halt
without_count (Ok p) = Ok p.1
without_count (Err h) = Err h
