-- What the long clauses of the top call promise, by name. The words are the call's; `left` is what the source tells of its bytes; then come counts of faults, and what is told of the bytes taken, before and after.
use Rattle.std.specs.Prelude.{◌≡◌, ◌≢◌, ◌⊎◌, ◌<◌, ◌≤◌, ℕ, List, [], ◌∷◌, ◌++◌, length, Option}
use Rattle.std.specs.Io.KnownBytes.{Appends}
use Rattle.kio.specs.Causes.{Rose}
use Rattle.pc_terms.specs.declared.leaf.FamilyId.{FamilyId}
use Rattle.dump_reader.specs.declared.environment.RawEnv.{RawEnv}
use Rattle.command_line.specs.declared.job.Job.{Job}
use Rattle.command_line.specs.declared.job.Job.TheVariants.{Bench, Call, Compile, Exec}
use Rattle.command_line.specs.declared.line.Request.{Request}
use Rattle.reports.specs.Shown.{Shown}
use Rattle.reports.specs.declared.fact.Fact.{Fact}
use Rattle.driver.specs.JobFacts.{HasJobFacts}
use Rattle.driver.specs.ReportLines.{told_lines}
use Rattle.driver.specs.Takes.{TakesLine}
use Rattle.driver.specs.declared.refusal.Refusal.{Refusal}
use Rattle.driver.specs.Lines.{status_of}
use Rattle.driver.specs.CallFinishes.{CanBeCalled, CallFinishes}
use Rattle.driver.specs.ExecEnds.{HasModule, Finishes}
use Rattle.driver.specs.Plain.{IsPlainOf}
use Rattle.driver.specs.Answerable.{IsAnswerable}
use Rattle.driver.specs.PlainAnswer.{AnswersConstructor, NamesConstructor}
use Rattle.driver.specs.Serve.{AsksModule, CompilesMain, HasWell, IsAnswerableBy, IsAsked, IsAskedOn, IsAskedOnText, IsAskedWithin, IsJudgedWith, IsLate, IsRefused, IsSure, IsTextCause, MeetsNoFault, ReadsWell, environment_text, input_limit}

-- on another status than 0 a refusal of that status has its cause, and its line goes to err; the functions tell bytes and counts of the objects
abbrev pub ShowsCause : {S K E : Type 0} (status : ℕ) (words : List (List ℕ)) (left : S → Option (List ℕ)) (reads : S → ℕ) (src src' : S) (writes : K → ℕ) (out out' : K)
    (told : E → Option (List ℕ)) (errs : E → ℕ) (err err' : E) → Type 0
ShowsCause status words left reads src src' writes out out' told errs err err' =
    status ≢ 0 → IsRefused status words (left src) (reads src) (reads src') (writes out) (writes out') (told err) (told err') (errs err) (errs err')

-- where the directed rules, the passes and the run come to a status, with no fault in reading, nor one in writing where that is 0, the call has that status, or 1 for want of memory
abbrev pub EndsAsJudged : (status : ℕ) (words : List (List ℕ)) (left : Option (List ℕ)) (before now faults faults' : ℕ) → Type 0
EndsAsJudged status words left before now faults faults' =
    (q : Request) (bytes : List ℕ) (wanted : ℕ) → IsAskedWithin q words left bytes →
    ReadsWell q.job before now → IsJudgedWith q.job q wanted bytes → (wanted ≡ 0 → ¬ Rose faults faults') → (status ≡ wanted) ⊎ (status ≡ 1)

-- on an environment for which the job has an answer, with no fault, the status is 0, or 1 for want of memory
abbrev pub AnswersWhereItCan : (status : ℕ) (words : List (List ℕ)) (left : Option (List ℕ)) (before now faults faults' : ℕ) → Type 0
AnswersWhereItCan status words left before now faults faults' =
    (q : Request) (e : RawEnv) (d : IsAskedOnText q e words left) → IsAnswerableBy q.job q e d.bytes → MeetsNoFault q.job before now faults faults' → (status ≡ 0) ⊎ (status ≡ 1)

-- on a plain environment that keeps all rules a job that makes main's module, given four turns and 1,052,672 steps, answers main's constructor, or its module
abbrev pub AnswersPlain : (status : ℕ) (words : List (List ℕ)) (left : Option (List ℕ)) (before now faults faults' : ℕ) (taken taken' : Option (List ℕ)) → Type 0
AnswersPlain status words left before now faults faults' taken taken' =
    (q : Request) (e : RawEnv) (a : IsAnswerable e) → AsksModule q e words left → 4 ≤ q.turns → (q.job ≢ Compile → 1052672 ≤ q.steps) →
    AnswersConstructor q e a status (MeetsNoFault q.job before now faults faults') taken taken'

-- on status 0 `exec`, given these, writes the name of main's constructor on each plain environment
abbrev pub NamesPlain : (status : ℕ) (words : List (List ℕ)) (left : Option (List ℕ)) (taken taken' : Option (List ℕ)) → Type 0
NamesPlain status words left taken taken' =
    (q : Request) (e : RawEnv) (f : FamilyId) (n : ℕ) → IsAskedOn q e words left →
    q.job ≡ Exec → 4 ≤ q.turns → 1052672 ≤ q.steps → IsPlainOf e f n → status ≡ 0 → (name : List ℕ) × NamesConstructor e f n name × Appends taken taken' (name ++ 10 ∷ [])

-- main has a module that a job runs: by `exec` and `bench` its own, by `call` the one for calls, with arguments of its signature behind the environment
abbrev pub CanRun : Job → Request → RawEnv → List ℕ → Type 0
CanRun Exec q e bytes = HasModule q.turns e q.pages
CanRun Bench q e bytes = HasModule q.turns e q.pages
CanRun Call q e bytes = CanBeCalled q.turns e bytes q.pages
CanRun _ q e bytes = ⊥

-- the status is one that this run shows, or that of an answer or of want of memory
abbrev pub RunFinishes : Job → Request → RawEnv → List ℕ → (status : ℕ) → Type 0
RunFinishes Call q e bytes status = CallFinishes q.turns e bytes q.pages q.steps status
RunFinishes _ q e bytes status = Finishes q.turns e q.pages q.steps status

-- where main has a module, and no fault is met, `exec`, `bench` and `call` have a status that its run shows, or want memory
abbrev pub EndsAsRun : (status : ℕ) (words : List (List ℕ)) (left : Option (List ℕ)) (before now faults faults' : ℕ) → Type 0
EndsAsRun status words left before now faults faults' =
    (q : Request) (e : RawEnv) (d : IsAskedOnText q e words left) →
    CanRun q.job q e d.bytes → MeetsNoFault q.job before now faults faults' → RunFinishes q.job q e d.bytes status

-- by `exec`, `bench`, `compile`, `export` and `call`, on each status that comes after the check the environment is well formed
abbrev pub IsWellWhereLate : (status : ℕ) (words : List (List ℕ)) (left : Option (List ℕ)) → Type 0
IsWellWhereLate status words left =
    (q : Request) (bytes : List ℕ) → IsAsked q words left bytes → CompilesMain q.job → IsLate status → HasWell (environment_text q.job bytes)

-- where the text itself shows a refusal, and no fault comes in reading, the status is that of this refusal, or 1 for want of memory
abbrev pub EndsAsText : (status : ℕ) (words : List (List ℕ)) (left : Option (List ℕ)) (before now : ℕ) → Type 0
EndsAsText status words left before now =
    (q : Request) (bytes : List ℕ) (r : Refusal) → IsAskedWithin q words left bytes →
    ReadsWell q.job before now → IsTextCause q.job q r bytes → IsSure r → (status ≡ status_of r) ⊎ (status ≡ 1)

-- where the input is longer than its limit, and no fault comes in reading, the status is 7, or 1 for want of memory
abbrev pub EndsAsLength : (status : ℕ) (words : List (List ℕ)) (left : Option (List ℕ)) (before now : ℕ) → Type 0
EndsAsLength status words left before now =
    (q : Request) (bytes : List ℕ) → IsAsked q words left bytes → q.job ≢ Bench → ¬ Rose before now → input_limit < length bytes → (status ≡ 7) ⊎ (status ≡ 1)

-- on status 0 err takes the lines of the reports, told the facts of the job's check and of its run, or a prefix of them at a fault
abbrev pub TellsReports : (status : ℕ) (words : List (List ℕ)) (left : Option (List ℕ)) (reports : List Shown) (line line' : Option (List ℕ)) (errs errs' : ℕ) → Type 0
TellsReports status words left reports line line' errs errs' =
    status ≡ 0 → (facts : List Fact) × HasJobFacts words left facts × TakesLine line line' errs errs' (told_lines facts reports)
