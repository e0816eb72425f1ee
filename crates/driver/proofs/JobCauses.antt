-- The statuses of a job's refusals.
use Rattle.std.proofs.Common.{◌≡◌, ℕ, List, ◌⊎◌, inl, inr, refl}
use Rattle.dump_reader.specs.declared.environment.RawEnv.{RawEnv}
use Rattle.dump_reader.specs.Spelled.{IsSpelled}
use Rattle.command_line.specs.declared.job.Job.{Job}
use Rattle.command_line.specs.declared.job.Job.TheVariants.{Exec, Check, Eval, Run, Compile, Bench, Explain, Export, Call, Verify, Cert}
use Rattle.command_line.specs.declared.line.Request.{Request}
use Rattle.driver.specs.declared.refusal.Refusal.{Refusal}
use Rattle.driver.specs.Lines.{status_of}
use Rattle.driver.specs.ExecEnds.{IsExecCause}
use Rattle.driver.specs.MadeModule.{IsMakeCause}
use Rattle.driver.specs.Exported.{IsExportCause, IsLargeForCall}
use Rattle.driver.specs.CallEnds.{IsCallStop}
use Rattle.driver.specs.Serve.{IsAnswerableBy, IsCheckCause, IsJobCause, IsSure, JobEndsWith}
use Rattle.driver.proofs.Accepting.{answerable_ends}
use Rattle.driver.proofs.CheckCauses.{cause_status}
use Rattle.driver.proofs.SourceCauses.{eval_status, evaluable_status}
use Rattle.driver.proofs.ExecCauses.{exec_status}
use Rattle.driver.proofs.MadeCauses.{make_status}
use Rattle.driver.proofs.ExportCauses.{export_status}
use Rattle.driver.proofs.Sizes.{has_call_module, has_module}

-- the cause without the sizes that it shows

pub exec_cause : (q : Request) (r : Refusal) (e : RawEnv) → IsJobCause Exec q r e → IsCheckCause q.turns r e ⊎ IsExecCause q.turns q.pages q.steps r e
exec_cause q r e (inl c) = inl c
exec_cause q r e (inr c) = inr c.0

pub compile_cause : (q : Request) (r : Refusal) (e : RawEnv) → IsJobCause Compile q r e → IsCheckCause q.turns r e ⊎ IsMakeCause q.turns q.pages r e
compile_cause q r e (inl c) = inl c
compile_cause q r e (inr c) = inr c.0

pub export_cause : (q : Request) (r : Refusal) (e : RawEnv) → IsJobCause Export q r e → IsCheckCause q.turns r e ⊎ IsExportCause q.turns q.pages r e
export_cause q r e (inl c) = inl c
export_cause q r e (inr c) = inr c.0

-- of `call`, whose arguments stand behind the environment's text
pub call_cause : (q : Request) (r : Refusal) (bytes : List ℕ) (e : RawEnv) → IsCheckCause q.turns r e ⊎ (IsCallStop q.turns q.pages q.steps bytes r e × IsLargeForCall q.turns r e) →
    IsCheckCause q.turns r e ⊎ IsCallStop q.turns q.pages q.steps bytes r e
call_cause q r bytes e (inl c) = inl c
call_cause q r bytes e (inr c) = inr c.0

pub job_status : (job : Job) (q : Request) (r : Refusal) (e : RawEnv) (status : ℕ) → IsJobCause job q r e → (IsSure r → ⊥) → JobEndsWith job q e status → status ≡ status_of r
job_status Exec q r e status c n h = exec_status q.turns r e q.pages q.steps status (exec_cause q r e c) n h
job_status Check q r e status c n h = cause_status q.turns r e status c n h
job_status Eval q r e status c n h = eval_status q.turns r e status c n h
job_status Run q r e status c n h = absurd h
job_status Compile q r e status c n h = make_status q.turns r e q.pages status (compile_cause q r e c) n h
job_status Bench q r e status c n h = exec_status q.turns r e q.pages q.steps status (exec_cause q r e c) n h
job_status Explain q r e status c n h = absurd c
job_status Call q r e status c n h = absurd c
job_status Verify q r e status c n h = absurd c
job_status Cert q r e status c n h = cause_status q.turns r e status c n h
job_status Export q r e status c n h = export_status q.turns e q.pages r status (export_cause q r e c) n h

-- where a job has an answer, a refusal of it would have its status
pub answerable_status : (job : Job) (q : Request) (r : Refusal) (e : RawEnv) (bytes : List ℕ) → IsSpelled e → IsAnswerableBy job q e bytes → IsJobCause job q r e → (IsSure r → ⊥) → 0 ≡ status_of r
answerable_status Exec q r e bytes spelled h c n = job_status Exec q r e 0 c n (inr h)
answerable_status Check q r e bytes spelled h c n = job_status Check q r e 0 c n (answerable_ends q.turns e h.0 h.1)
answerable_status Eval q r e bytes spelled h c n = evaluable_status q.turns r e h c n
answerable_status Run q r e bytes spelled h c n = absurd h
answerable_status Compile q r e bytes spelled h c n = job_status Compile q r e 0 c n (inr (inl (has_module q.turns e q.pages spelled h, refl)))
answerable_status Bench q r e bytes spelled h c n = job_status Bench q r e 0 c n (inr h)
answerable_status Explain q r e bytes spelled h c n = absurd c
answerable_status Call q r e bytes spelled h c n = absurd c
answerable_status Verify q r e bytes spelled h c n = absurd c
answerable_status Cert q r e bytes spelled h c n = job_status Cert q r e 0 c n h
answerable_status Export q r e bytes spelled h c n = job_status Export q r e 0 c n (inr (inl (has_call_module q.turns e q.pages spelled h, refl)))
