-- All that the top call promises, as one record over the objects that it is lent.
use Rattle.std.specs.Prelude.{◌≡◌, ◌≢◌, ◌⊎◌, ◌≤◌, ℕ, List, [], ◌∷◌, Contains, Option, None}
use Rattle.std.specs.Io.KnownBytes.{Appends}
use Rattle.kio.specs.Known.{StillTells}
use Rattle.calculus_rules.specs.FirstOrder.{Data}
use Rattle.dump_reader.specs.declared.environment.RawEnv.{RawEnv}
use Rattle.lambda_box.specs.ClosureEvaluation.{Counts}
use Rattle.reports.specs.Shown.{Shown}
use Rattle.driver.specs.Takes.{TakesPrefix}
use Rattle.command_line.specs.declared.line.Request.{Request}
use Rattle.command_line.specs.Line.{request_of}
use Rattle.driver.specs.Executed.{AnswersData, HasErasedData}
use Rattle.driver.specs.Headline.{HasValue, ServesValue, EvaluatesErased, IsBoundedBy, GivesErased, IsCountedBy, HasMatches, TakesMatches}
use Rattle.driver.specs.Serve.{HasAnswer, AsksModule, IsRefused, ReadsNothing}
use Rattle.driver.specs.Promises.{AnswersPlain, AnswersWhereItCan, EndsAsJudged, EndsAsLength, EndsAsRun, EndsAsText, IsWellWhereLate, NamesPlain, TellsReports}

-- An object as a call meets it: itself, the bytes that it tells, its count of faults.
pub record Seen (X : Type 0) : Type 0 where
  pub object : X
  pub told : Option (List ℕ)
  pub faults : ℕ

abbrev pub seen : {X : Type 0} → (told : X → Option (List ℕ)) → (faults : X → ℕ) → X → Seen X
seen told faults x = record { object = x; told = told x; faults = faults x }

-- What is left of an object: its count doesn't fall, and it tells its bytes where it did.
pub record IsKept {X : Type 0} (old new : Seen X) : Type 0 where
  pub count : old.faults ≤ new.faults
  pub tells : StillTells old.told new.told

pub record Served {S K E : Type 0} (status : ℕ) (words : List (List ℕ)) (reports : List Shown) (src src' : Seen S) (out out' : Seen K) (err err' : Seen E) : Type 0 where
  pub done : status ≡ 0 → (text : List ℕ) × HasAnswer words src.told text × Appends out.told out'.told text
  pub statuses : Contains (0 ∷ 1 ∷ 2 ∷ 3 ∷ 4 ∷ 5 ∷ 6 ∷ 7 ∷ 8 ∷ 9 ∷ 10 ∷ 11 ∷ 12 ∷ 13 ∷ 14 ∷ 15 ∷ 16 ∷ 17 ∷ []) status
  pub refused : status ≢ 0 → IsRefused status words src.told src.faults src'.faults out.faults out'.faults err.told err'.told err.faults err'.faults
  pub usage : status ≡ 2 → request_of words ≡ None
  pub faulty : request_of words ≡ None → (src'.object ≡ src.object) × ((status ≡ 2) ⊎ (status ≡ 1))
  pub prefix : status ≡ 4 → (text : List ℕ) × HasAnswer words src.told text × TakesPrefix out.told out'.told text
  pub judged : EndsAsJudged status words src.told src.faults src'.faults out.faults out'.faults
  pub complete : AnswersWhereItCan status words src.told src.faults src'.faults out.faults out'.faults
  pub values : (q : Request) (e : RawEnv) (ds : Data) (n k : ℕ) → AsksModule q e words src.told → HasErasedData q.turns e ds n k → AnswersData q e ds status out.told out'.told
  pub plain : AnswersPlain status words src.told src.faults src'.faults out.faults out'.faults out.told out'.told
  pub named : NamesPlain status words src.told out.told out'.told
  pub finishes : EndsAsRun status words src.told src.faults src'.faults out.faults out'.faults
  pub well : IsWellWhereLate status words src.told
  pub headline : (q : Request) (e : RawEnv) (n : ℕ) → AsksModule q e words src.told → (h : HasValue q.turns e n) → ServesValue q e n status h out.told out'.told
  pub bounded : (q : Request) (e : RawEnv) (n : ℕ) → AsksModule q e words src.told → (h : EvaluatesErased q.turns e n) → IsBoundedBy q e n h status
  pub counted : (q : Request) (e : RawEnv) (c : Counts) → AsksModule q e words src.told → (h : GivesErased q.turns e c) → IsCountedBy q e c h status
  pub matched : (q : Request) (e : RawEnv) (matches : ℕ) → AsksModule q e words src.told → HasMatches q.turns e matches → TakesMatches q e matches status
  pub refuses_text : EndsAsText status words src.told src.faults src'.faults
  pub refuses_length : EndsAsLength status words src.told src.faults src'.faults
  pub nothing_out : status ≢ 0 → status ≢ 4 → out'.object ≡ out.object
  pub reported : TellsReports status words src.told reports err.told err'.told err.faults err'.faults
  pub unread : ReadsNothing words → src'.object ≡ src.object
  pub quiet : status ≡ 0 → reports ≡ [] → err'.object ≡ err.object
  pub source : IsKept src src'
  pub sinks : IsKept out out' × IsKept err err'

-- so of objects whose bytes and counts these functions tell
abbrev pub ServedOn : {S K E : Type 0} (status : ℕ) (words : List (List ℕ)) (reports : List Shown) (left : S → Option (List ℕ)) (reads : S → ℕ) (src src' : S)
    (taken : K → Option (List ℕ)) (writes : K → ℕ) (out out' : K) (told : E → Option (List ℕ)) (errs : E → ℕ) (err err' : E) → Type 0
ServedOn status words reports left reads src src' taken writes out out' told errs err err' =
    Served status words reports (seen left reads src) (seen left reads src') (seen taken writes out) (seen taken writes out') (seen told errs err) (seen told errs err')
