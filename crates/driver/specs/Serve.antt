-- What the top call promises: of the answer, of each refusal's cause, and of what it leaves.
use Rattle.std.specs.Prelude.{◌≡◌, ◌≢◌, ℕ, ◌≤◌, ◌<◌, List, [], length, codes, Option, Some, None, Result, Ok, Err, ◌⊎◌}
use Rattle.std.specs.Io.KnownBytes.{Appends}
use Rattle.kio.specs.Causes.{Rose}
use Rattle.dump_grammar.specs.declared.refusal.ReadRefusal.TheVariants as reads
use Rattle.dump_reader.specs.Front.{front_bytes}
use Rattle.dump_reader.specs.declared.environment.RawEnv.{RawEnv}
use Rattle.pc_terms.specs.Syntax.{Term}
use Rattle.pc_rules.specs.declared.accepted.Accepted.{Accepted}
use Rattle.pc_rules.specs.declared.meter.Account.{Account}
use Rattle.calculus_rules.specs.Environment.{Env}
use Rattle.cert_rules.specs.Walk.{Items}
use Rattle.rule_laws.specs.Declarations.{IsCheckedEnvironment}
use Rattle.env_check.specs.Rules.{givens}
use Rattle.driver.specs.declared.refusal.Refusal.{Refusal}
use Rattle.driver.specs.declared.refusal.Refusal.TheVariants as refusals
use Rattle.command_line.specs.declared.job.Job.{Job}
use Rattle.command_line.specs.declared.job.Job.TheVariants.{Exec, Check, Eval, Run, Compile, Bench, Explain, Export, Call, Verify, Cert}
use Rattle.command_line.specs.declared.line.Request.{Request}
use Rattle.command_line.specs.Line.{request_of}
use Rattle.driver.specs.Answerable.{IsAnswerable}
use Rattle.driver.specs.Lines.{status_of, line_of}
use Rattle.driver.specs.Texts.{SpellsWithin, Refuses}
use Rattle.driver.specs.SourceEnds.{IsAcceptedWith, IsSourceCause, EvalEndsWith}
use Rattle.driver.specs.Evaluable.{IsEvaluable}
use Rattle.driver.specs.EvaluatedSource.{IsEvaluated}
use Rattle.driver.specs.ExecEnds.{HasModule, IsExecCause, IsLargeFor, ExecEndsWith, RestEndsWith}
use Rattle.workload.specs.WorkloadText.{text_of}
use Rattle.driver.specs.Takes.{TakesLine, TakesPrefix}
use Rattle.driver.specs.Executed.{IsExecuted}
use Rattle.driver.specs.Benched.{IsBenched}
use Rattle.driver.specs.MadeModule.{IsMade, IsMakeCause, MakeEndsWith}
use Rattle.driver.specs.Exported.{IsExported, IsExportCause, IsLargeForCall, HasCallModule, ExportEndsWith}
use Rattle.driver.specs.CallEnds.{IsCallStop}
use Rattle.driver.specs.Called.{IsCallAnswer, CallIsJudged, CallRestEndsWith}
use Rattle.driver.specs.RunFile.{IsRunAnswer, IsRunCause, RunEndsWith}
use Rattle.driver.specs.Explained.{IsExplained}
use Rattle.certified_texts.specs.ReadBack.{certified_text}
use Rattle.driver.specs.CertEnds.{IsCertified}
use Rattle.driver.specs.VerifyEnds.{IsCertificateCause, IsWalked, VerifyIsJudged, WalkEndsWith}
use Rattle.driver.specs.Judged.{IsAcceptedBy, IsSpentBy, IsTooDeepFor, IsBrokenBy, EndsWith}

-- the most bytes of an input
abbrev pub input_limit : ℕ
input_limit = 16777216

-- These bytes are the whole input, where the source tells it, and within the limit.
abbrev pub IsInput : Option (List ℕ) → List ℕ → Type 0
IsInput None bytes = length bytes ≤ input_limit
IsInput (Some left) bytes = (bytes ≡ left) × (length bytes ≤ input_limit)

-- The bytes that a job works on: the whole input; by `bench` the text of the request's number, which it makes.
abbrev pub IsInputOf : Job → Request → Option (List ℕ) → List ℕ → Type 0
IsInputOf Bench q left bytes = bytes ≡ text_of q.size
IsInputOf _ q left bytes = IsInput left bytes

-- The input passes the limit, where the source tells it.
abbrev pub IsTooLong : Option (List ℕ) → Type 0
IsTooLong None = Unit {0}
IsTooLong (Some left) = input_limit < length left

-- The environment that the text spells is well formed, by a derivation for every declaration and for main: these are the environment, which
-- keeps exactly what is declared, with the sorts of constructor arguments, and main's type.
pub record IsWell (e : RawEnv) : Type 0 where
  pub kept : Env
  pub type : Term
  pub checked : IsCheckedEnvironment e.levels e.constraints (givens e) e.main kept type

-- The words ask for no job, or for `bench`.
abbrev pub ReadsNothing : List (List ℕ) → Type 0
ReadsNothing words = (q : Request) → request_of words ≡ Some q → q.job ≡ Bench

-- The text is the answer of `check` on the input.
pub record IsCheckAnswer (turns : ℕ) (bytes text : List ℕ) : Type 0 where
  pub environment : RawEnv
  pub spelled : SpellsWithin bytes environment
  pub accepted : IsAcceptedBy turns environment
  pub well : IsWell environment
  pub text_is : text ≡ codes "ok\n"

-- The text is the answer of `verify` on the input: the front spells an environment, which is well formed, and the certificate behind it is accepted.
pub record IsVerifyAnswer (turns : ℕ) (bytes text : List ℕ) : Type 0 where
  pub environment : RawEnv
  pub spelled : SpellsWithin (front_bytes bytes) environment
  pub walked : IsWalked turns environment bytes
  pub well : IsWell environment
  pub text_is : text ≡ codes "ok\n"

-- The text is the answer of `cert` on the input: the canonical text of the environment that it spells, which is well formed, and the text of the certificate that the directed rules write of it.
pub record IsCertAnswer (turns : ℕ) (bytes text : List ℕ) : Type 0 where
  pub environment : RawEnv
  pub spelled : SpellsWithin bytes environment
  pub items : Items
  pub certified : IsCertified turns environment items
  pub well : IsWell environment
  pub text_is : text ≡ certified_text environment items

-- The text is the answer on the input of a job with the numbers of a request.
abbrev pub IsAnswerOf : Job → Request → (bytes text : List ℕ) → Type 0
IsAnswerOf Exec q bytes text = IsExecuted q.turns q.pages q.steps bytes text
IsAnswerOf Check q bytes text = IsCheckAnswer q.turns bytes text
IsAnswerOf Eval q bytes text = IsEvaluated q.turns bytes text
IsAnswerOf Run q bytes text = IsRunAnswer q.pages q.steps bytes text
IsAnswerOf Compile q bytes text = IsMade q.turns q.pages bytes text
IsAnswerOf Bench q bytes text = IsBenched q.turns q.pages q.steps bytes text
IsAnswerOf Explain q bytes text = IsCheckAnswer q.turns bytes text ⊎ IsExplained q.turns bytes text
IsAnswerOf Export q bytes text = IsExported q.turns q.pages bytes text
IsAnswerOf Call q bytes text = IsCallAnswer q.turns q.pages q.steps bytes text
IsAnswerOf Verify q bytes text = IsVerifyAnswer q.turns bytes text
IsAnswerOf Cert q bytes text = IsCertAnswer q.turns bytes text

-- The input, and the answer on it of the job that the words ask for.
pub record HasAnswer (words : List (List ℕ)) (left : Option (List ℕ)) (text : List ℕ) : Type 0 where
  pub request : Request
  pub asked : request_of words ≡ Some request
  pub bytes : List ℕ
  pub input : IsInputOf request.job request left bytes
  pub answer : IsAnswerOf request.job request bytes text

-- what of an environment shows a refusal of its check
abbrev pub IsCheckCause : (turns : ℕ) → Refusal → RawEnv → Type 0
IsCheckCause turns refusals.TurnsSpent e = IsSpentBy turns e
IsCheckCause turns refusals.Depth e = IsTooDeepFor turns e
IsCheckCause turns (refusals.Broken n p) e = IsBrokenBy turns e n p
IsCheckCause turns _ e = ⊥

-- what of an environment shows a refusal of a job: its check, and with `eval`, `exec`, `compile` and `export` what comes after it; `explain` answers them all
abbrev pub IsJobCause : Job → Request → Refusal → RawEnv → Type 0
IsJobCause Exec q r e = IsCheckCause q.turns r e ⊎ (IsExecCause q.turns q.pages q.steps r e × IsLargeFor q.turns r e)
IsJobCause Check q r e = IsCheckCause q.turns r e
IsJobCause Eval q r e = IsCheckCause q.turns r e ⊎ IsSourceCause q.turns r e
IsJobCause Run q r e = ⊥
IsJobCause Compile q r e = IsCheckCause q.turns r e ⊎ (IsMakeCause q.turns q.pages r e × IsLargeFor q.turns r e)
IsJobCause Bench q r e = IsCheckCause q.turns r e ⊎ (IsExecCause q.turns q.pages q.steps r e × IsLargeFor q.turns r e)
IsJobCause Explain q r e = ⊥
IsJobCause Call q r e = ⊥
IsJobCause Verify q r e = ⊥
IsJobCause Cert q r e = IsCheckCause q.turns r e
IsJobCause Export q r e = IsCheckCause q.turns r e ⊎ (IsExportCause q.turns q.pages r e × IsLargeForCall q.turns r e)

-- the environment that the text spells shows it
abbrev pub IsOfCheck : Job → Request → Refusal → List ℕ → Type 0
IsOfCheck job q r bytes = (e : RawEnv) × SpellsWithin bytes e × IsJobCause job q r e

-- what of a dump shows a refusal of a job
abbrev pub IsDumpCause : Job → Request → Refusal → List ℕ → Type 0
IsDumpCause job q (refusals.Syntax o) bytes = Refuses bytes (reads.Syntax o)
IsDumpCause job q (refusals.Unsupported w o) bytes = Refuses bytes (reads.Unsupported w o)
IsDumpCause job q (refusals.Limit l) bytes = (o : ℕ) × Refuses bytes (reads.Limit l o)
IsDumpCause job q refusals.Memory bytes = ⊥
IsDumpCause job q refusals.Usage bytes = ⊥
IsDumpCause job q refusals.ReadFault bytes = ⊥
IsDumpCause job q refusals.WriteFault bytes = ⊥
IsDumpCause job q refusals.InputBytes bytes = ⊥
IsDumpCause job q r bytes = IsOfCheck job q r bytes

-- the front of the input spells an environment whose check shows it, or what comes after the check by `call`
abbrev pub IsOfCall : Request → Refusal → List ℕ → Type 0
IsOfCall q r bytes = (e : RawEnv) × SpellsWithin (front_bytes bytes) e × (IsCheckCause q.turns r e ⊎ (IsCallStop q.turns q.pages q.steps bytes r e × IsLargeForCall q.turns r e))

-- what of the input shows a refusal of `call`: the text of the environment, or what it spells
abbrev pub IsCallCause : Request → Refusal → List ℕ → Type 0
IsCallCause q (refusals.Syntax o) bytes = Refuses (front_bytes bytes) (reads.Syntax o)
IsCallCause q (refusals.Unsupported w o) bytes = Refuses (front_bytes bytes) (reads.Unsupported w o)
IsCallCause q (refusals.Limit l) bytes = (o : ℕ) × Refuses (front_bytes bytes) (reads.Limit l o)
IsCallCause q refusals.Memory bytes = ⊥
IsCallCause q refusals.Usage bytes = ⊥
IsCallCause q refusals.ReadFault bytes = ⊥
IsCallCause q refusals.WriteFault bytes = ⊥
IsCallCause q refusals.InputBytes bytes = ⊥
IsCallCause q r bytes = IsOfCall q r bytes

-- the front of the input spells an environment, and the text behind it, or the walk along the certificate that it is, shows it
abbrev pub IsOfVerify : Request → Refusal → List ℕ → Type 0
IsOfVerify q r bytes = (e : RawEnv) × SpellsWithin (front_bytes bytes) e × IsCertificateCause q.turns bytes r e

-- what of the input shows a refusal of `verify`: the text of the environment, or what comes behind it
abbrev pub IsVerifyCause : Request → Refusal → List ℕ → Type 0
IsVerifyCause q (refusals.Syntax o) bytes = Refuses (front_bytes bytes) (reads.Syntax o)
IsVerifyCause q (refusals.Unsupported w o) bytes = Refuses (front_bytes bytes) (reads.Unsupported w o)
IsVerifyCause q (refusals.Limit l) bytes = (o : ℕ) × Refuses (front_bytes bytes) (reads.Limit l o)
IsVerifyCause q refusals.Memory bytes = ⊥
IsVerifyCause q refusals.Usage bytes = ⊥
IsVerifyCause q refusals.ReadFault bytes = ⊥
IsVerifyCause q refusals.WriteFault bytes = ⊥
IsVerifyCause q refusals.InputBytes bytes = ⊥
IsVerifyCause q r bytes = IsOfVerify q r bytes

-- what of an input, a dump, a dump with arguments or a certificate behind it or a module, shows a refusal of a job
abbrev pub IsTextCause : Job → Request → Refusal → List ℕ → Type 0
IsTextCause Run q r bytes = IsRunCause q.pages q.steps r bytes
IsTextCause Call q r bytes = IsCallCause q r bytes
IsTextCause Verify q r bytes = IsVerifyCause q r bytes
IsTextCause job q r bytes = IsDumpCause job q r bytes

-- the text itself refuses: there the answer is determined but for want of memory
abbrev pub IsSure : Refusal → Type 0
IsSure refusals.TurnsSpent = ⊥
IsSure refusals.Depth = ⊥
IsSure (refusals.Broken n p) = ⊥
IsSure refusals.Types = ⊥
IsSure refusals.Arguments = ⊥
IsSure (refusals.Argument w) = ⊥
IsSure (refusals.Certificate w) = ⊥
IsSure refusals.AnswerNodes = ⊥
IsSure refusals.NotFirstOrder = ⊥
IsSure refusals.Stuck = ⊥
IsSure (refusals.Axiom name) = ⊥
IsSure (refusals.Program l) = ⊥
IsSure (refusals.Run w) = ⊥
IsSure (refusals.Module w) = ⊥
IsSure _ = Unit {0}

-- The words ask for a job, and the refusal is that of the input's text.
abbrev pub IsOfText : Refusal → (words : List (List ℕ)) → (left : Option (List ℕ)) → Type 0
IsOfText r words left = (q : Request) × (request_of words ≡ Some q) × ((bytes : List ℕ) × IsInputOf q.job q left bytes × IsTextCause q.job q r bytes)

abbrev pub IsForJob : List (List ℕ) → Type 0
IsForJob words = (q : Request) × (request_of words ≡ Some q)

-- and that job reads an input
abbrev pub IsForReader : List (List ℕ) → Type 0
IsForReader words = (q : Request) × (request_of words ≡ Some q) × (q.job ≢ Bench)

-- What shows a refusal: the words, the source's count of faults, out's count of faults, the input's text or its length. Nothing shows want of memory.
abbrev pub IsCause : Refusal → (words : List (List ℕ)) → (left : Option (List ℕ)) → (before now faults faults' : ℕ) → Type 0
IsCause refusals.Memory words left before now faults faults' = Unit {0}
IsCause refusals.Usage words left before now faults faults' = request_of words ≡ None
IsCause refusals.ReadFault words left before now faults faults' = IsForReader words × Rose before now
IsCause refusals.WriteFault words left before now faults faults' = IsForJob words × Rose faults faults'
IsCause refusals.InputBytes words left before now faults faults' = IsForReader words × IsTooLong left
IsCause r words left before now faults faults' = IsOfText r words left

-- what a job's result says, before anything is written
abbrev pub Says : {V : Type 0} → (V → List ℕ) → Result V Refusal → (words : List (List ℕ)) → (left : Option (List ℕ)) → (before now : ℕ) → Type 0
Says view (Ok v) words left before now = HasAnswer words left (view v)
Says view (Err refusals.WriteFault) words left before now = ⊥
Says view (Err r) words left before now = IsCause r words left before now 0 0

-- what reading the words says of a refusal; want of memory says nothing
abbrev pub RequestSays : Refusal → (words : List (List ℕ)) → Type 0
RequestSays refusals.Usage words = request_of words ≡ None
RequestSays refusals.Memory words = Unit {0}
RequestSays _ words = ⊥

-- what reading the input says
abbrev pub ReadSays : {V : Type 0} → (V → List ℕ) → Result V Refusal → (left : Option (List ℕ)) → (before now : ℕ) → Type 0
ReadSays view (Ok v) left before now = IsInput left (view v)
ReadSays view (Err refusals.Memory) left before now = Unit {0}
ReadSays view (Err refusals.ReadFault) left before now = Rose before now
ReadSays view (Err refusals.InputBytes) left before now = IsTooLong left
ReadSays view (Err _) left before now = ⊥

-- what getting the bytes of a job says
abbrev pub InputSays : {V : Type 0} → (V → List ℕ) → Result V Refusal → Request → (left : Option (List ℕ)) → (before now : ℕ) → Type 0
InputSays view (Ok v) q left before now = IsInputOf q.job q left (view v)
InputSays view (Err refusals.Memory) q left before now = Unit {0}
InputSays view (Err refusals.ReadFault) q left before now = (q.job ≢ Bench) × Rose before now
InputSays view (Err refusals.InputBytes) q left before now = (q.job ≢ Bench) × IsTooLong left
InputSays view (Err _) q left before now = ⊥

-- what a refusal of a job says of its input; want of memory says nothing
abbrev pub RefusalSays : Job → Request → Refusal → List ℕ → Type 0
RefusalSays job q refusals.Memory bytes = Unit {0}
RefusalSays job q r bytes = IsTextCause job q r bytes

-- what a job says of its input
abbrev pub JobSays : {V : Type 0} → Job → Request → (V → List ℕ) → Result V Refusal → List ℕ → Type 0
JobSays job q view (Ok v) bytes = IsAnswerOf job q bytes (view v)
JobSays job q view (Err r) bytes = RefusalSays job q r bytes

-- what the check of an environment says
abbrev pub CheckSays : (turns : ℕ) → Result Accepted Refusal → RawEnv → Type 0
CheckSays turns (Ok a) e = IsAcceptedBy turns e × IsCheckedEnvironment e.levels e.constraints (givens e) e.main a.env a.main_type
CheckSays turns (Err refusals.Memory) e = Unit {0}
CheckSays turns (Err r) e = IsCheckCause turns r e

-- and so many units are left
abbrev pub AcceptSays : (turns : ℕ) → Result Accepted Refusal → RawEnv → Account → Type 0
AcceptSays turns (Ok a) e u = IsAcceptedWith turns e a.env a.main_type u × (a.main ≡ e.main) × IsCheckedEnvironment e.levels e.constraints (givens e) e.main a.env a.main_type
AcceptSays turns (Err r) e u = CheckSays turns (Err r) e

-- What is written of a job's result: its text to out and the lines of reports to err, or the line of its refusal to err; a write fault's line too.
pub record Written (status : ℕ) (text lines : List ℕ) (taken taken' : Option (List ℕ)) (faults faults' : ℕ) {E : Type 0} (err err' : E) (line line' : Option (List ℕ)) (errs errs' : ℕ) : Type 0 where
  pub whole : status ≡ 0 → Appends taken taken' text × TakesLine line line' errs errs' lines × (lines ≡ [] → err' ≡ err)
  pub part : status ≢ 0 → (status ≡ 4) × Rose faults faults' × TakesPrefix taken taken' text × TakesLine line line' errs errs' (line_of refusals.WriteFault)

abbrev pub Concludes : {V K E : Type 0} → (V → List ℕ) → Result V Refusal → (lines : List ℕ) → (status : ℕ) → (out out' : K) (taken taken' : Option (List ℕ)) (faults faults' : ℕ)
    (err err' : E) (line line' : Option (List ℕ)) (errs errs' : ℕ) → Type 0
Concludes view (Ok v) lines status out out' taken taken' faults faults' err err' line line' errs errs' = Written status (view v) lines taken taken' faults faults' err err' line line' errs errs'
Concludes view (Err r) lines status out out' taken taken' faults faults' err err' line line' errs errs' = (status ≡ status_of r) × (out' ≡ out) × TakesLine line line' errs errs' (line_of r)

-- so of objects whose bytes and counts these functions tell
abbrev pub ConcludesOn : {V K E : Type 0} → (V → List ℕ) → Result V Refusal → (lines : List ℕ) → (status : ℕ) → (taken : K → Option (List ℕ)) (writes : K → ℕ) (out out' : K)
    (told : E → Option (List ℕ)) (errs : E → ℕ) (err err' : E) → Type 0
ConcludesOn view a lines status taken writes out out' told errs err err' =
    Concludes view a lines status out out' (taken out) (taken out') (writes out) (writes out') err err' (told err) (told err') (errs err) (errs err')

-- The status is that of a refusal that has its cause, and whose line goes to err, with the cause's own offset or word.
pub record IsRefused (status : ℕ) (words : List (List ℕ)) (left : Option (List ℕ)) (before now faults faults' : ℕ) (line line' : Option (List ℕ)) (errs errs' : ℕ) : Type 0 where
  pub refusal : Refusal
  pub status_is : status ≡ status_of refusal
  pub cause : IsCause refusal words left before now faults faults'
  pub told : TakesLine line line' errs errs' (line_of refusal)

-- a source tells these bytes; by `bench` they are those that it makes
abbrev pub SourceTells : Job → Request → Option (List ℕ) → List ℕ → Type 0
SourceTells Bench q left bytes = bytes ≡ text_of q.size
SourceTells _ q left bytes = left ≡ Some bytes

-- The words ask for this, and the source tells these bytes; or they ask for `bench`, which makes these bytes.
pub record IsAsked (q : Request) (words : List (List ℕ)) (left : Option (List ℕ)) (bytes : List ℕ) : Type 0 where
  pub words_are : request_of words ≡ Some q
  pub bytes_are : SourceTells q.job q left bytes

-- And the bytes are within the limit of an input.
abbrev pub IsAskedWithin : (q : Request) (words : List (List ℕ)) (left : Option (List ℕ)) (bytes : List ℕ) → Type 0
IsAskedWithin q words left bytes = IsAsked q words left bytes × (length bytes ≤ input_limit)

-- The words ask for this, and the source tells bytes within the limit, which spell this environment.
pub record IsAskedOn (q : Request) (e : RawEnv) (words : List (List ℕ)) (left : Option (List ℕ)) : Type 0 where
  pub bytes : List ℕ
  pub asked : IsAsked q words left bytes
  pub short : length bytes ≤ input_limit
  pub spelled : SpellsWithin bytes e

-- the bytes of a job's input that spell its environment: by `call` those in front of the arguments, by `verify` those in front of the certificate
abbrev pub environment_text : Job → List ℕ → List ℕ
environment_text Call bytes = front_bytes bytes
environment_text Verify bytes = front_bytes bytes
environment_text _ bytes = bytes

-- The words ask for this, and the source tells bytes within the limit, those of which that spell the job's environment spell this one.
pub record IsAskedOnText (q : Request) (e : RawEnv) (words : List (List ℕ)) (left : Option (List ℕ)) : Type 0 where
  pub bytes : List ℕ
  pub asked : IsAsked q words left bytes
  pub short : length bytes ≤ input_limit
  pub spelled : SpellsWithin (environment_text q.job bytes) e

-- The source's count of faults doesn't rise, where the job reads.
abbrev pub ReadsWell : Job → (before now : ℕ) → Type 0
ReadsWell job before now = job ≢ Bench → ¬ Rose before now

-- Nor does out's.
abbrev pub MeetsNoFault : Job → (before now faults faults' : ℕ) → Type 0
MeetsNoFault job before now faults faults' = ReadsWell job before now × ¬ Rose faults faults'

-- a job that makes main's module: `exec` and `bench` run it, and `compile` writes it
abbrev pub MakesModule : Job → Type 0
MakesModule job = (job ≡ Exec) ⊎ ((job ≡ Compile) ⊎ (job ≡ Bench))

-- or one for calls: `call` runs it, and `export` writes it
abbrev pub CompilesMain : Job → Type 0
CompilesMain job = MakesModule job ⊎ ((job ≡ Export) ⊎ (job ≡ Call))

-- the words ask for a job that makes main's module, on this environment
abbrev pub AsksModule : (q : Request) (e : RawEnv) (words : List (List ℕ)) (left : Option (List ℕ)) → Type 0
AsksModule q e words left = IsAskedOn q e words left × MakesModule q.job

-- by the directed rules the job ends with this status, within the limits; `explain` ends with 0 whatever they come to
abbrev pub JobEndsWith : Job → Request → RawEnv → ℕ → Type 0
JobEndsWith Exec q e status = ExecEndsWith q.turns e q.pages q.steps status
JobEndsWith Check q e status = EndsWith q.turns e status
JobEndsWith Eval q e status = EvalEndsWith q.turns e status
JobEndsWith Run q e status = ⊥
JobEndsWith Compile q e status = MakeEndsWith q.turns e q.pages status
JobEndsWith Bench q e status = ExecEndsWith q.turns e q.pages q.steps status
JobEndsWith Explain q e status = status ≡ 0
JobEndsWith Call q e status = ⊥
JobEndsWith Verify q e status = ⊥
JobEndsWith Cert q e status = EndsWith q.turns e status
JobEndsWith Export q e status = ExportEndsWith q.turns e q.pages status

-- the text spells an environment, and the job ends with this status
abbrev pub IsDumpJudgedWith : Job → Request → ℕ → List ℕ → Type 0
IsDumpJudgedWith job q status bytes = (e : RawEnv) × SpellsWithin bytes e × JobEndsWith job q e status

-- so of a dump, with arguments or a certificate behind it too, or the run of a module ends with this status
abbrev pub IsJudgedWith : Job → Request → ℕ → List ℕ → Type 0
IsJudgedWith Run q status bytes = RunEndsWith q.pages q.steps bytes status
IsJudgedWith Call q status bytes = CallIsJudged q status bytes
IsJudgedWith Verify q status bytes = VerifyIsJudged q.turns status bytes
IsJudgedWith job q status bytes = IsDumpJudgedWith job q status bytes

-- an environment on which the job has an answer, and by `call` and `verify` besides the input's bytes: by `exec` one whose main's module answers data of main's type, by `check` a plain one that keeps all rules,
-- by `eval` one whose main has a value that is data, by `compile` one whose main has a module within 16 MiB, as the passes or its sizes show, by `explain` each, by `export` one whose main has so
-- a module for calls, by `call` one whose main's module answers data of the answer's types on the arguments behind it, by `verify` one along whose certificate behind it
-- the walk comes to its end, by `cert` one that the directed rules accept within the units and the limits
abbrev pub IsAnswerableBy : Job → Request → RawEnv → List ℕ → Type 0
IsAnswerableBy Exec q e bytes = RestEndsWith q.turns e q.pages q.steps 0
IsAnswerableBy Check q e bytes = (0 < q.turns) × IsAnswerable e
IsAnswerableBy Eval q e bytes = IsEvaluable q.turns e
IsAnswerableBy Run q e bytes = ⊥
IsAnswerableBy Compile q e bytes = HasModule q.turns e q.pages
IsAnswerableBy Bench q e bytes = RestEndsWith q.turns e q.pages q.steps 0
IsAnswerableBy Explain q e bytes = Unit {0}
IsAnswerableBy Call q e bytes = CallRestEndsWith q.turns e bytes q.pages q.steps 0
IsAnswerableBy Verify q e bytes = WalkEndsWith q.turns e bytes 0
IsAnswerableBy Cert q e bytes = EndsWith q.turns e 0
IsAnswerableBy Export q e bytes = HasCallModule q.turns e q.pages

-- a status that comes after the check: 0, 4 and those from 10 on
abbrev pub IsLate : ℕ → Type 0
IsLate status = (status ≡ 0) ⊎ ((status ≡ 4) ⊎ (10 ≤ status))

-- the text spells an environment that is well formed
abbrev pub HasWell : List ℕ → Type 0
HasWell bytes = (e : RawEnv) × SpellsWithin bytes e × IsWell e
