-- The cause of a refusal of the text is one, and shows that the text has no answer.
use Rattle.std.proofs.Common.{◌≡◌, ℕ, ◌≤◌, List, [], ◌∷◌, length, Ok, ◌⊎◌, inl, inr, refl, sym, ap, subst, ◌∙◌}
use Rattle.sexp_reader.specs.Lex.{tokens_of}
use Rattle.dump_grammar.specs.declared.refusal.ReadRefusal.{ReadRefusal}
use Rattle.dump_grammar.specs.declared.refusal.ReadRefusal.TheVariants as reads
use Rattle.dump_grammar.specs.Named.{NamedEnv}
use Rattle.dump_grammar.specs.Environments.{env_of}
use Rattle.dump_grammar.specs.Table.{VEnv}
use Rattle.dump_grammar.specs.Judge.{Verdict, Fine, Refuse, verdict}
use Rattle.dump_grammar.proofs.FirstRefusal.{first_refusal, refusal_is}
use Rattle.dump_grammar.proofs.Law.{judged}
use Rattle.dump_grammar.proofs.Within.{limited}
use Rattle.dump_reader.specs.Front.{front_bytes}
use Rattle.dump_reader.specs.declared.environment.RawEnv.{RawEnv}
use Rattle.dump_reader.specs.NumberedEnvironment.{numbered}
use Rattle.dump_reader.specs.Spelled.{IsSpelled}
use Rattle.dump_reader.specs.Spelling.{IsVerdict}
use Rattle.driver.specs.declared.refusal.Refusal.{Refusal}
use Rattle.driver.specs.declared.refusal.Refusal.TheVariants as refusals
use Rattle.driver.specs.Lines.{refusal_of}
use Rattle.command_line.specs.declared.job.Job.{Job}
use Rattle.command_line.specs.declared.job.Job.TheVariants.{Exec, Check, Eval, Run, Compile, Bench, Explain, Export, Call, Verify, Cert}
use Rattle.driver.specs.Lines.{status_of}
use Rattle.driver.specs.Texts.{SpellsWithin, Refuses}
use Rattle.driver.specs.Judged.{IsAcceptedBy, EndsWith}
use Rattle.driver.specs.SourceEnds.{IsSourceRun, source_status}
use Rattle.driver.specs.ExecEnds.{Accepting, Answering, Compiling, ExecEnds, IsExecCause, its_module, its_shapes}
use Rattle.driver.specs.Executed.{IsExecuted}
use Rattle.driver.specs.Benched.{IsBenched}
use Rattle.driver.specs.Bench.{lines_of}
use Rattle.driver.specs.SourceSays.{IsLine}
use Rattle.driver.specs.MadeModule.{IsMade, MakeEndsWith}
use Rattle.driver.specs.Exported.{ExportEndsWith, IsExportCause, IsLargeForCall}
use Rattle.driver.specs.CallEnds.{CallJobEnds, IsCallStop}
use Rattle.driver.specs.Called.{CallIsJudged, IsCallAnswer}
use Rattle.driver.specs.VerifyEnds.{IsCertificateCause, IsWalked, VerifyIsJudged}
use Rattle.command_line.specs.declared.line.Request.{Request}
use Rattle.wasm_core.specs.ModuleGrammar.{SpellsModule}
use Rattle.wasm_core.specs.ShortestBytes.{most_bytes}
use Rattle.driver.specs.Serve.{CompilesMain, IsAnswerableBy, IsAnswerOf, HasWell, IsLate, IsCallCause, IsCheckCause, IsDumpCause, IsDumpJudgedWith, IsJobCause, IsTextCause, IsSure, IsJudgedWith, IsVerifyAnswer, IsVerifyCause, IsWell, MakesModule, environment_text}
use Rattle.driver.proofs.RunCauses.{run_judged_answer, run_judged_cause, run_not_sure}
use Rattle.driver.proofs.CheckCauses.{accepted_status, not_zero}
use Rattle.driver.proofs.SourceCauses.{accepted_by, same_run}
use Rattle.driver.proofs.ExecCauses.{executed_status, check_early, text_early, well_of}
use Rattle.driver.proofs.JobCauses.{answerable_status, call_cause, compile_cause, exec_cause, export_cause, job_status}
use Rattle.driver.proofs.MadeCauses.{made_status, make_cause}
use Rattle.driver.proofs.ExportCauses.{export_accepts, exported_status}
use Rattle.driver.proofs.CallJobCauses.{call_accepts, call_status, called_status}
use Rattle.driver.proofs.VerifyCauses.{certificate_status, walked_status}

abbrev pub verdict_on : List ℕ → Verdict
verdict_on bytes = verdict (length bytes) (tokens_of bytes)

pub refuses : (bytes : List ℕ) (r : ReadRefusal) → Refuses bytes r → verdict_on bytes ≡ Refuse r
refuses bytes r h = first_refusal.refused (length bytes) (tokens_of bytes) r h

pub fine : (bytes : List ℕ) (e : RawEnv) (s : SpellsWithin bytes e) → verdict_on bytes ≡ Fine (VEnv (env_of s.form) ∷ [])
fine bytes e s = limited.within (length bytes) (tokens_of bytes) s.form s.tokens s.within

pub is_spelled : (bytes : List ℕ) (e : RawEnv) → SpellsWithin bytes e → IsSpelled e
is_spelled bytes e s = (bytes, env_of s.form, fine bytes e s, s.means)

fine-inj : (a b : NamedEnv) → Fine (VEnv a ∷ []) ≡ Fine (VEnv b ∷ []) → a ≡ b
fine-inj a b e = cc

env-inj : (a b : NamedEnv) → VEnv a ∷ [] ≡ VEnv b ∷ [] → a ≡ b
env-inj a b e = cc

pub one_environment : (bytes : List ℕ) (a b : RawEnv) → SpellsWithin bytes a → SpellsWithin bytes b → a ≡ b
one_environment bytes a b s t = s.means ∙ ap numbered (fine-inj (env_of s.form) (env_of t.form) (sym (fine bytes a s) ∙ fine bytes b t)) ∙ sym t.means

never_both : (bytes : List ℕ) (e : RawEnv) (q : ReadRefusal) → SpellsWithin bytes e → verdict_on bytes ≡ Refuse q → ⊥
never_both bytes e q s h = let c : Refuse q ≡ Fine (VEnv (env_of s.form) ∷ []) = sym h ∙ fine bytes e s in absurd cc

-- What a cause is of: the first refusal of the text, or the environment that it spells, which shows it.
data Of (Shows : RawEnv → Type 0) (bytes : List ℕ) (r : Refusal) : Type 0 where
  OfRefusal : (x : ReadRefusal) → verdict_on bytes ≡ Refuse x → r ≡ refusal_of x → Of Shows bytes r
  OfCheck : (e : RawEnv) → SpellsWithin bytes e → Shows e → (IsSure r → ⊥) → Of Shows bytes r

of : (job : Job) (q : Request) (bytes : List ℕ) (r : Refusal) → IsDumpCause job q r bytes → Of (IsJobCause job q r) bytes r
of job q bytes refusals.Memory h = absurd h
of job q bytes refusals.Usage h = absurd h
of job q bytes refusals.ReadFault h = absurd h
of job q bytes refusals.WriteFault h = absurd h
of job q bytes (refusals.Syntax o) h = OfRefusal (reads.Syntax o) (refuses bytes (reads.Syntax o) h) refl
of job q bytes (refusals.Unsupported w o) h = OfRefusal (reads.Unsupported w o) (refuses bytes (reads.Unsupported w o) h) refl
of job q bytes (refusals.Limit l) h = OfRefusal (reads.Limit l h.0) (refuses bytes (reads.Limit l h.0) h.1) refl
of job q bytes refusals.InputBytes h = absurd h
of job q bytes _ h = OfCheck h.0 h.1 h.2 (λ x. x)

-- by `call` the text is the front of the bytes
abbrev CallShows : Request → List ℕ → Refusal → RawEnv → Type 0
CallShows q bytes r e = IsCheckCause q.turns r e ⊎ (IsCallStop q.turns q.pages q.steps bytes r e × IsLargeForCall q.turns r e)

of_call : (q : Request) (bytes : List ℕ) (r : Refusal) → IsCallCause q r bytes → Of (CallShows q bytes r) (front_bytes bytes) r
of_call q bytes refusals.Memory h = absurd h
of_call q bytes refusals.Usage h = absurd h
of_call q bytes refusals.ReadFault h = absurd h
of_call q bytes refusals.WriteFault h = absurd h
of_call q bytes (refusals.Syntax o) h = OfRefusal (reads.Syntax o) (refuses (front_bytes bytes) (reads.Syntax o) h) refl
of_call q bytes (refusals.Unsupported w o) h = OfRefusal (reads.Unsupported w o) (refuses (front_bytes bytes) (reads.Unsupported w o) h) refl
of_call q bytes (refusals.Limit l) h = OfRefusal (reads.Limit l h.0) (refuses (front_bytes bytes) (reads.Limit l h.0) h.1) refl
of_call q bytes refusals.InputBytes h = absurd h
of_call q bytes _ h = OfCheck h.0 h.1 h.2 (λ x. x)

-- so it is by `verify`
of_verify : (q : Request) (bytes : List ℕ) (r : Refusal) → IsVerifyCause q r bytes → Of (IsCertificateCause q.turns bytes r) (front_bytes bytes) r
of_verify q bytes refusals.Memory h = absurd h
of_verify q bytes refusals.Usage h = absurd h
of_verify q bytes refusals.ReadFault h = absurd h
of_verify q bytes refusals.WriteFault h = absurd h
of_verify q bytes (refusals.Syntax o) h = OfRefusal (reads.Syntax o) (refuses (front_bytes bytes) (reads.Syntax o) h) refl
of_verify q bytes (refusals.Unsupported w o) h = OfRefusal (reads.Unsupported w o) (refuses (front_bytes bytes) (reads.Unsupported w o) h) refl
of_verify q bytes (refusals.Limit l) h = OfRefusal (reads.Limit l h.0) (refuses (front_bytes bytes) (reads.Limit l h.0) h.1) refl
of_verify q bytes refusals.InputBytes h = absurd h
of_verify q bytes _ h = OfCheck h.0 h.1 h.2 (λ x. x)

-- a cause that the text itself shows is the only one
sure_is_one : {P Q : RawEnv → Type 0} (bytes : List ℕ) (a r : Refusal) → Of P bytes a → Of Q bytes r → IsSure r → a ≡ r
sure_is_one bytes a r h (OfCheck f t c n) sure = absurd (n sure)
sure_is_one bytes a r (OfRefusal x va ea) (OfRefusal b vb eb) sure = ea ∙ ap refusal_of (refusal_is x b (sym va ∙ vb)) ∙ sym eb
sure_is_one bytes a r (OfCheck e s c n) (OfRefusal b vb eb) sure = absurd (never_both bytes e b s vb)

-- and where the text spells an environment, it is that which shows a cause
shown_by : {P : RawEnv → Type 0} (bytes : List ℕ) (e : RawEnv) (r : Refusal) → SpellsWithin bytes e → Of P bytes r → P e × (IsSure r → ⊥)
shown_by bytes e r s (OfRefusal x v k) = absurd (never_both bytes e x s v)
shown_by {P = P} bytes e r s (OfCheck f t c n) = (subst P (one_environment bytes f e t s) c, n)

-- a text whose environment is judged has no other cause than one of its status
dump_judged_cause : (job : Job) (q : Request) (bytes : List ℕ) (status : ℕ) (r : Refusal) → IsDumpJudgedWith job q status bytes → IsDumpCause job q r bytes → status ≡ status_of r
dump_judged_cause job q bytes status r (e, s, ends) h = (let c = shown_by bytes e r s (of job q bytes r h) in job_status job q r e status c.0 c.1 ends)

call_judged_cause : (q : Request) (bytes : List ℕ) (status : ℕ) (r : Refusal) → CallIsJudged q status bytes → IsCallCause q r bytes → status ≡ status_of r
call_judged_cause q bytes status r (e, s, ends) h =
    (let c = shown_by (front_bytes bytes) e r s (of_call q bytes r h) in call_status q.turns e bytes q.pages q.steps r status (call_cause q r bytes e c.0) c.1 ends)

verify_judged_cause : (q : Request) (bytes : List ℕ) (status : ℕ) (r : Refusal) → VerifyIsJudged q.turns status bytes → IsVerifyCause q r bytes → status ≡ status_of r
verify_judged_cause q bytes status r (e, s, ends) h =
    (let c = shown_by (front_bytes bytes) e r s (of_verify q bytes r h) in certificate_status q.turns e bytes r status c.0 ends)

pub call_cause_on : (q : Request) (bytes : List ℕ) (e : RawEnv) (r : Refusal) → SpellsWithin (front_bytes bytes) e → IsCallCause q r bytes →
    (IsCheckCause q.turns r e ⊎ IsCallStop q.turns q.pages q.steps bytes r e) × (IsSure r → ⊥)
call_cause_on q bytes e r s h = (let c = shown_by (front_bytes bytes) e r s (of_call q bytes r h) in (call_cause q r bytes e c.0, c.1))

-- a cause, as one of the environment that the text spells
pub cause_on : (job : Job) (q : Request) (bytes : List ℕ) (e : RawEnv) (r : Refusal) → SpellsWithin bytes e → IsDumpCause job q r bytes → IsJobCause job q r e
cause_on job q bytes e r s h = (shown_by bytes e r s (of job q bytes r h)).0

-- a text whose environment has an answer has no cause
dump_answerable : (job : Job) (q : Request) (bytes : List ℕ) (r : Refusal) (e : RawEnv) → SpellsWithin bytes e → IsAnswerableBy job q e bytes → IsDumpCause job q r bytes → ⊥
dump_answerable job q bytes r e s answerable h = (let c = shown_by bytes e r s (of job q bytes r h) in not_zero r (sym (answerable_status job q r e bytes (is_spelled bytes e s) answerable c.0 c.1)))

pub answerable_cause : (job : Job) (q : Request) (bytes : List ℕ) (r : Refusal) (e : RawEnv) → SpellsWithin (environment_text job bytes) e → IsAnswerableBy job q e bytes → IsTextCause job q r bytes → ⊥
answerable_cause Run q bytes r e s answerable h = answerable
answerable_cause Call q bytes r e s answerable h = not_zero r (sym (call_judged_cause q bytes 0 r (e, s, inr answerable) h))
answerable_cause Verify q bytes r e s answerable h = not_zero r (sym (verify_judged_cause q bytes 0 r (e, s, inr answerable) h))
answerable_cause job q bytes r e s answerable h = dump_answerable job q bytes r e s answerable h

-- ---- a job that makes main's module

-- a cause of it is one of `exec`
pub module_cause : (q : Request) (bytes : List ℕ) (e : RawEnv) (r : Refusal) → SpellsWithin bytes e → MakesModule q.job → IsTextCause q.job q r bytes → IsCheckCause q.turns r e ⊎ IsExecCause q.turns q.pages q.steps r e
module_cause q bytes e r s (inl is) h = exec_cause q r e (cause_on Exec q bytes e r s (subst (λ j. IsTextCause j q r bytes) is h))
module_cause q bytes e r s (inr (inl is)) h = make_cause q.turns q.pages q.steps r e (compile_cause q r e (cause_on Compile q bytes e r s (subst (λ j. IsTextCause j q r bytes) is h)))
module_cause q bytes e r s (inr (inr is)) h = exec_cause q r e (cause_on Bench q bytes e r s (subst (λ j. IsTextCause j q r bytes) is h))

-- ---- a job that compiles main

accepted_well : {turns : ℕ} {e : RawEnv} → Accepting turns e → IsWell e
accepted_well k = record { kept = k.kept; type = k.type; checked = k.checked }

-- what shows a refusal of it after the check has an environment that is well formed

exec_well : (q : Request) (r : Refusal) (e : RawEnv) → IsCheckCause q.turns r e ⊎ IsExecCause q.turns q.pages q.steps r e → IsCheckCause q.turns r e ⊎ IsWell e
exec_well q r e (inl c) = inl c
exec_well q r e (inr c) = inr (well_of q.turns e q.pages q.steps r c.1)

export_well : (q : Request) (r : Refusal) (e : RawEnv) → IsCheckCause q.turns r e ⊎ IsExportCause q.turns q.pages r e → IsCheckCause q.turns r e ⊎ IsWell e
export_well q r e (inl c) = inl c
export_well q r e (inr c) = inr (accepted_well (export_accepts q.turns e q.pages r c.1))

call_well : (q : Request) (r : Refusal) (bytes : List ℕ) (e : RawEnv) → IsCheckCause q.turns r e ⊎ IsCallStop q.turns q.pages q.steps bytes r e → IsCheckCause q.turns r e ⊎ IsWell e
call_well q r bytes e (inl c) = inl c
call_well q r bytes e (inr c) = inr (accepted_well (call_accepts q.turns e bytes q.pages q.steps r c.1))

-- so where it refuses after the check the text spells such an environment

late_well : {P : RawEnv → Type 0} (q : Request) (bytes : List ℕ) (r : Refusal) → ((e : RawEnv) → P e → IsCheckCause q.turns r e ⊎ IsWell e) → Of P bytes r → IsLate (status_of r) → HasWell bytes
late_well q bytes r causes (OfRefusal x v k) late = absurd (text_early x (subst (λ y. IsLate (status_of y)) k late))
late_well q bytes r causes (OfCheck f t c n) late = elim (causes f c) [ inl x ↦ absurd (check_early q.turns r f x late) | inr w ↦ (f, t, w) ]

-- by which job it is

abbrev Cause : Request → Refusal → List ℕ → Job → Type 0
Cause q r bytes job = IsTextCause job q r bytes

abbrev Well : List ℕ → Job → Type 0
Well bytes job = HasWell (environment_text job bytes)

pub well_on : (q : Request) (bytes : List ℕ) (r : Refusal) → CompilesMain q.job → IsTextCause q.job q r bytes → IsLate (status_of r) → HasWell (environment_text q.job bytes)
well_on q bytes r (inl (inl is)) h late = subst (Well bytes) (sym is) (late_well q bytes r (λ e c. exec_well q r e (exec_cause q r e c)) (of Exec q bytes r (subst (Cause q r bytes) is h)) late)
well_on q bytes r (inl (inr (inl is))) h late =
    subst (Well bytes) (sym is) (late_well q bytes r (λ e c. exec_well q r e (make_cause q.turns q.pages q.steps r e (compile_cause q r e c))) (of Compile q bytes r (subst (Cause q r bytes) is h)) late)
well_on q bytes r (inl (inr (inr is))) h late = subst (Well bytes) (sym is) (late_well q bytes r (λ e c. exec_well q r e (exec_cause q r e c)) (of Bench q bytes r (subst (Cause q r bytes) is h)) late)
well_on q bytes r (inr (inl is)) h late = subst (Well bytes) (sym is) (late_well q bytes r (λ e c. export_well q r e (export_cause q r e c)) (of Export q bytes r (subst (Cause q r bytes) is h)) late)
well_on q bytes r (inr (inr is)) h late = subst (Well bytes) (sym is) (late_well q (front_bytes bytes) r (λ e c. call_well q r bytes e (call_cause q r bytes e c)) (of_call q bytes r (subst (Cause q r bytes) is h)) late)

-- and where it has an answer

abbrev Answer : Request → (bytes text : List ℕ) → Job → Type 0
Answer q bytes text job = IsAnswerOf job q bytes text

pub well_answered : (q : Request) (bytes text : List ℕ) → CompilesMain q.job → IsAnswerOf q.job q bytes text → HasWell (environment_text q.job bytes)
well_answered q bytes text (inl (inl is)) a = (let x : Answer q bytes text Exec = subst (Answer q bytes text) is a in subst (Well bytes) (sym is) (x.environment, x.spelled, accepted_well x.stages.before.before.before.before))
well_answered q bytes text (inl (inr (inl is))) a = (let x : Answer q bytes text Compile = subst (Answer q bytes text) is a in subst (Well bytes) (sym is) (x.environment, x.spelled, accepted_well x.stages.before.before.before))
well_answered q bytes text (inl (inr (inr is))) a =
    (let x : Answer q bytes text Bench = subst (Answer q bytes text) is a in subst (Well bytes) (sym is) (x.executed.environment, x.executed.spelled, accepted_well x.executed.stages.before.before.before.before))
well_answered q bytes text (inr (inl is)) a = (let x : Answer q bytes text Export = subst (Answer q bytes text) is a in subst (Well bytes) (sym is) (x.environment, x.spelled, accepted_well x.stages.before.before.before))
well_answered q bytes text (inr (inr is)) a = (let x : Answer q bytes text Call = subst (Answer q bytes text) is a in subst (Well bytes) (sym is) (x.environment, x.spelled, accepted_well x.stages.before.before.before.before))

-- a text that spells an environment has no sure cause
pub dump_not_sure : (job : Job) (q : Request) (bytes : List ℕ) (e : RawEnv) (r : Refusal) → SpellsWithin bytes e → IsDumpCause job q r bytes → IsSure r → ⊥
dump_not_sure job q bytes e r s h sure = (shown_by bytes e r s (of job q bytes r h)).1 sure

call_not_sure : (q : Request) (bytes : List ℕ) (e : RawEnv) (r : Refusal) → SpellsWithin (front_bytes bytes) e → IsCallCause q r bytes → IsSure r → ⊥
call_not_sure q bytes e r s h sure = (shown_by (front_bytes bytes) e r s (of_call q bytes r h)).1 sure

verify_not_sure : (q : Request) (bytes : List ℕ) (e : RawEnv) (r : Refusal) → SpellsWithin (front_bytes bytes) e → IsVerifyCause q r bytes → IsSure r → ⊥
verify_not_sure q bytes e r s h sure = (shown_by (front_bytes bytes) e r s (of_verify q bytes r h)).1 sure

-- an answer of a text whose environment is judged is that of an acceptance
check_judged : (turns : ℕ) (bytes : List ℕ) (e f : RawEnv) (status : ℕ) → SpellsWithin bytes e → EndsWith turns e status → SpellsWithin bytes f → IsAcceptedBy turns f → status ≡ 0
check_judged turns bytes e f status s ends t accepted = accepted_status turns e status (subst (IsAcceptedBy turns) (one_environment bytes f e t s) accepted) ends

-- an answer of `exec` on the environment that its text spells
pub executed_on : (q : Request) (bytes text : List ℕ) (e : RawEnv) → SpellsWithin bytes e → (a : IsExecuted q.turns q.pages q.steps bytes text) → ExecEnds q.turns e q.pages q.steps (Ok text)
executed_on q bytes text e s a = subst (λ x. ExecEnds q.turns x q.pages q.steps (Ok text)) (one_environment bytes a.environment e a.spelled s) (a.stages, a.text_is)

-- and of `compile`
pub made_on : (q : Request) (bytes text : List ℕ) (e : RawEnv) → SpellsWithin bytes e → (a : IsMade q.turns q.pages bytes text) → (x : Compiling q.turns e) × SpellsModule text (its_module q.pages x)
made_on q bytes text e s a = subst (λ y. (x : Compiling q.turns y) × SpellsModule text (its_module q.pages x)) (one_environment bytes a.environment e a.spelled s) (a.stages, a.module_is)

-- and of `bench`
pub benched_on : (q : Request) (bytes text : List ℕ) (e : RawEnv) → SpellsWithin bytes e → IsBenched q.turns q.pages q.steps bytes text →
    (answer : List ℕ) × (x : Answering q.turns e q.pages q.steps) × IsLine (its_shapes x.before.before) e.names x.answer.tree answer × (text ≡ lines_of x answer)
benched_on q bytes text e s b =
    subst (λ y. (answer : List ℕ) × (x : Answering q.turns y q.pages q.steps) × IsLine (its_shapes x.before.before) y.names x.answer.tree answer × (text ≡ lines_of x answer))
    (one_environment bytes b.executed.environment e b.executed.spelled s) (b.answer, b.executed.stages, b.executed.text_is, b.text_is)

-- and of `call`
pub called_on : (q : Request) (bytes text : List ℕ) (e : RawEnv) → SpellsWithin (front_bytes bytes) e → (a : IsCallAnswer q.turns q.pages q.steps bytes text) →
    CallJobEnds q.turns e bytes q.pages q.steps (Ok text)
called_on q bytes text e s a = subst (λ x. CallJobEnds q.turns x bytes q.pages q.steps (Ok text)) (one_environment (front_bytes bytes) a.environment e a.spelled s) (a.stages, a.text_is)

-- and of `verify`
walked_on : (turns : ℕ) (bytes text : List ℕ) (e : RawEnv) → SpellsWithin (front_bytes bytes) e → IsVerifyAnswer turns bytes text → IsWalked turns e bytes
walked_on turns bytes text e s a = subst (λ x. IsWalked turns x bytes) (one_environment (front_bytes bytes) a.environment e a.spelled s) a.walked

-- ---- the same of any job's input

pub one_cause : (job : Job) (q : Request) (bytes : List ℕ) (a r : Refusal) → IsTextCause job q a bytes → IsTextCause job q r bytes → IsSure r → a ≡ r
one_cause Run q bytes a r h k sure = absurd (run_not_sure q.pages q.steps r bytes k sure)
one_cause Call q bytes a r h k sure = sure_is_one (front_bytes bytes) a r (of_call q bytes a h) (of_call q bytes r k) sure
one_cause Verify q bytes a r h k sure = sure_is_one (front_bytes bytes) a r (of_verify q bytes a h) (of_verify q bytes r k) sure
one_cause job q bytes a r h k sure = sure_is_one bytes a r (of job q bytes a h) (of job q bytes r k) sure

pub judged_cause : (job : Job) (q : Request) (bytes : List ℕ) (status : ℕ) (r : Refusal) → length bytes ≤ most_bytes → IsJudgedWith job q status bytes → IsTextCause job q r bytes → status ≡ status_of r
judged_cause Run q bytes status r short h k = run_judged_cause q.pages q.steps bytes status r short h k
judged_cause Call q bytes status r short h k = call_judged_cause q bytes status r h k
judged_cause Verify q bytes status r short h k = verify_judged_cause q bytes status r h k
judged_cause job q bytes status r short h k = dump_judged_cause job q bytes status r h k

pub no_cause_of_answers : (job : Job) (q : Request) (bytes text : List ℕ) (r : Refusal) → IsAnswerOf job q bytes text → IsTextCause job q r bytes → IsSure r → ⊥
no_cause_of_answers Bench q bytes text r a h sure = dump_not_sure Bench q bytes a.executed.environment r a.executed.spelled h sure
no_cause_of_answers Call q bytes text r a h sure = call_not_sure q bytes a.environment r a.spelled h sure
no_cause_of_answers Verify q bytes text r a h sure = verify_not_sure q bytes a.environment r a.spelled h sure
no_cause_of_answers Run q bytes text r a h sure = run_not_sure q.pages q.steps r bytes h sure
no_cause_of_answers Explain q bytes text r (inl a) h sure = dump_not_sure Explain q bytes a.environment r a.spelled h sure
no_cause_of_answers Explain q bytes text r (inr a) h sure = dump_not_sure Explain q bytes a.environment r a.spelled h sure
no_cause_of_answers job q bytes text r a h sure = dump_not_sure job q bytes a.environment r a.spelled h sure

pub judged_answer : (job : Job) (q : Request) (bytes text : List ℕ) (status : ℕ) → length bytes ≤ most_bytes → IsJudgedWith job q status bytes → IsAnswerOf job q bytes text → status ≡ 0
judged_answer Exec q bytes text status short (e, s, ends) a = executed_status q.turns e q.pages q.steps text status (executed_on q bytes text e s a) ends
judged_answer Check q bytes text status short (e, s, ends) a = check_judged q.turns bytes e a.environment status s ends a.spelled a.accepted
judged_answer Eval q bytes text status short (e, s, inl ends) a =
    check_judged q.turns bytes e a.environment status s ends.0 a.spelled (accepted_by q.turns a.environment a.kept a.type a.left a.accepted)
judged_answer Eval q bytes text status short (e, s, inr ends) a =
    let there = subst (λ x. IsSourceRun q.turns x a.run) (one_environment bytes a.environment e a.spelled s) a.ran in
    ends.status_is ∙ ap (λ r. source_status r.end) (same_run q.turns e ends.run a.run ends.of there) ∙ a.ends
judged_answer Compile q bytes text status short (e, s, ends) a =
    made_status q.turns a.environment q.pages status a.stages a.small (subst (λ x. MakeEndsWith q.turns x q.pages status) (one_environment bytes e a.environment s a.spelled) ends)
judged_answer Bench q bytes text status short (e, s, ends) a = executed_status q.turns e q.pages q.steps a.answer status (executed_on q bytes a.answer e s a.executed) ends
judged_answer Run q bytes text status short h a = run_judged_answer q.pages q.steps bytes text status short h a
judged_answer Explain q bytes text status short (e, s, ends) a = ends
judged_answer Export q bytes text status short (e, s, ends) a =
    exported_status q.turns a.environment q.pages status a.stages a.small (subst (λ x. ExportEndsWith q.turns x q.pages status) (one_environment bytes e a.environment s a.spelled) ends)
judged_answer Call q bytes text status short (e, s, ends) a = called_status q.turns e bytes q.pages q.steps text status (called_on q bytes text e s a) ends
judged_answer Verify q bytes text status short (e, s, ends) a = walked_status q.turns e bytes status (walked_on q.turns bytes text e s a) ends
judged_answer Cert q bytes text status short (e, s, ends) a =
    let m = a.certified.made in
    check_judged q.turns bytes e a.environment status s ends a.spelled (accepted_by q.turns a.environment m.kept m.type a.certified.left m.accepted)

-- What the reader gives is spelled within the limits.
pub within_limits : (bytes : List ℕ) (e : RawEnv) → IsVerdict bytes (Ok e) → SpellsWithin bytes e
within_limits bytes e h =
    let (env, accepted, means) = h in
    let (env', values, spelled) = judged.fine (length bytes) (tokens_of bytes) (VEnv env ∷ []) accepted in
    let same : env ≡ env' = env-inj env env' values in
    let (d, tokens, is) = spelled in
    let all : env ≡ env_of d = same ∙ is in
    record {
      form = d;
      tokens = tokens;
      within = limited.only (length bytes) (tokens_of bytes) d tokens (accepted ∙ ap (λ x. Fine (VEnv x ∷ [])) all);
      means = means ∙ ap numbered all;
    }
