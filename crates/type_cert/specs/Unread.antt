-- What is promised of calls along the certified walk that leave a result out and tell only whether there is one, or give a sort as a term.
use Rattle.std.specs.Prelude.{◌≡◌, Result, Ok, Err}
use Rattle.universe_levels.specs.declared.sort.Sort.{Sort}
use Rattle.pc_terms.specs.Syntax.{Term, SortT}
use Rattle.pc_rules.specs.Follows.{IsAfter}
use Rattle.cert_rules.specs.Walk.{Walk}
use Rattle.type_cert.specs.declared.halt.WalkHalt.{WalkHalt}
use Rattle.type_cert.specs.declared.trail.Trail.{Trail}
use Rattle.type_cert.specs.Retraces.{Retraces}

-- what is promised of an answer holds of one with some result, or the call halts
abbrev pub LeavesOut : {A : Type 0} → (Result A WalkHalt → Type 0) → Result (Unit {0}) WalkHalt → Type 0
LeavesOut {A = A} P (Ok x) = (a : A) × P (Ok a)
LeavesOut P (Err h) = P (Err h)

-- the call goes along the walk, and leaves its result out
pub record RetracesUnread {A : Type 0} (d : Walk A) (r : Result (Unit {0}) WalkHalt) (old new : Trail) : Type 0 where
  pub unread : LeavesOut {A = A} (λ q. Retraces d q old new) r
  pub after : IsAfter old.meter new.meter

-- what is promised of an answer holds of one with the sort that a term is, or the call halts
abbrev pub AsTerm : (Result Sort WalkHalt → Type 0) → Result Term WalkHalt → Type 0
AsTerm P (Ok t) = (s : Sort) × ((SortT s ≡ t) × P (Ok s))
AsTerm P (Err h) = P (Err h)

-- the call goes along the walk to a sort, and gives it as a term
pub record RetracesSort (d : Walk Sort) (r : Result Term WalkHalt) (old new : Trail) : Type 0 where
  pub sorts : AsTerm (λ q. Retraces d q old new) r
  pub after : IsAfter old.meter new.meter
