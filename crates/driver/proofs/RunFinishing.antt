-- Where main has a module that a job runs, each refusal of the job has a status that this run shows.
use Rattle.std.proofs.Common.{◌≡◌, ◌≢◌, ◌∙◌, ℕ, List, Err, refl, sym, subst, arith, lit<}
use Rattle.dump_reader.specs.Front.{front_bytes}
use Rattle.dump_reader.specs.declared.environment.RawEnv.{RawEnv}
use Rattle.first_order.specs.Awaited.{joined}
use Rattle.module_run.specs.declared.refusal.RunRefusal.{RunRefusal}
use Rattle.module_run.specs.declared.refusal.RunRefusal.TheVariants as running
use Rattle.module_run.specs.CallEnds.{CallEnds}
use Rattle.module_run.specs.Ends.{IsSmall}
use Rattle.command_line.specs.declared.job.Job.{Job}
use Rattle.command_line.specs.declared.job.Job.TheVariants.{Bench, Call, Exec}
use Rattle.command_line.specs.declared.line.Request.{Request}
use Rattle.driver.specs.declared.refusal.Refusal.{Refusal}
use Rattle.driver.specs.CallEnds.{ReadingArguments}
use Rattle.driver.specs.CallFinishes.{CanBeCalled, CallFinishes}
use Rattle.driver.specs.CallStages.{CallCompiling, its_call_module}
use Rattle.driver.specs.Lines.{status_of}
use Rattle.driver.specs.Promises.{CanRun, RunFinishes}
use Rattle.driver.specs.Serve.{IsCallCause, IsTextCause, environment_text}
use Rattle.driver.specs.Texts.{SpellsWithin}
use Rattle.driver.proofs.CallCauses.{one_call_module}
use Rattle.driver.proofs.CallJobCauses.{call_run_status, one_reading}
use Rattle.driver.proofs.CallLate.{LateEnd, late, of_answer, of_run}
use Rattle.driver.proofs.ExecCauses.{finishes}
use Rattle.driver.proofs.JobCauses.{exec_cause}
use Rattle.driver.proofs.Sizes.{has_call_module, has_module}
use Rattle.driver.proofs.TextCauses.{call_cause_on, cause_on, dump_not_sure, is_spelled}

-- ---- of `call`

module _ (turns : ℕ) (e : RawEnv) (bytes : List ℕ) (pages steps : ℕ) (x : CallCompiling turns e) (small : IsSmall (its_call_module pages x)) where
  of_end : (y : ReadingArguments turns e bytes) (z : CallCompiling turns e) (why : RunRefusal) → CallEnds (its_call_module pages z) pages steps y.arguments (Err why) → why ≢ running.Memory → (status : ℕ) →
      status ≡ call_run_status (Err why) → CallFinishes turns e bytes pages steps status
  of_end y z running.ModuleBytes h n status is = absurd (let few = subst IsSmall (one_call_module turns e pages x z) small in omega (arith, h, few))
  of_end y z running.Exhausted h n status is = record { among = (3, lit< tt, sym is); many = λ w. absurd (omega (arith, is, w)) }
  of_end y z running.StepsSpent h n status is = record { among = (4, lit< tt, sym is); many = λ w. absurd (omega (arith, is, w)) }
  of_end y z (running.Trapped kind) h n status is = record { among = (5, lit< tt, sym is); many = λ w. absurd (omega (arith, is, w)) }
  of_end y z (running.NoValue word) h n status is = record { among = (5, lit< tt, sym is); many = λ w. absurd (omega (arith, is, w)) }
  of_end y z running.AnswerNodes h n status is = record { among = (2, lit< tt, sym is); many = λ w. (y, z, h.1) }
  of_end y z running.Memory h n status is = absurd (n refl)

  of_late : (status : ℕ) → LateEnd turns e bytes pages steps status → CallFinishes turns e bytes pages steps status
  of_late status (of_run y z why k other is) = of_end y z why k other status is
  of_late status (of_answer z none is) = record { among = (5, lit< tt, sym is); many = λ w. absurd (omega (arith, is, w)) }

call_finished : (q : Request) (e : RawEnv) (bytes : List ℕ) → SpellsWithin (front_bytes bytes) e → CanBeCalled q.turns e bytes q.pages → (r : Refusal) → IsCallCause q r bytes → CallFinishes q.turns e bytes q.pages q.steps (status_of r)
call_finished q e bytes s c r cause =
    let x = has_call_module q.turns e q.pages (is_spelled (front_bytes bytes) e s) c.compiled in
    let y = c.reading in
    let (shown, other) = call_cause_on q bytes e r s cause in
    of_late q.turns e bytes q.pages q.steps x.stages x.small (status_of r)
    (late q.turns e bytes q.pages q.steps x.check x.stages x.within (joined y.arguments) (λ z. one_reading q.turns e bytes z y.before ∙ y.read.0) r other shown)

-- ---- of each job that runs a module

pub refusal_finishes : (job : Job) (q : Request) (e : RawEnv) (bytes : List ℕ) → SpellsWithin (environment_text job bytes) e → CanRun job q e bytes → (r : Refusal) → IsTextCause job q r bytes →
    RunFinishes job q e bytes (status_of r)
refusal_finishes Exec q e bytes s h r cause =
    finishes q.turns e q.pages q.steps (has_module q.turns e q.pages (is_spelled bytes e s) h) r (exec_cause q r e (cause_on Exec q bytes e r s cause)) (dump_not_sure Exec q bytes e r s cause)
refusal_finishes Bench q e bytes s h r cause =
    finishes q.turns e q.pages q.steps (has_module q.turns e q.pages (is_spelled bytes e s) h) r (exec_cause q r e (cause_on Bench q bytes e r s cause)) (dump_not_sure Bench q bytes e r s cause)
refusal_finishes Call q e bytes s h r cause = call_finished q e bytes s h r cause
refusal_finishes _ q e bytes s h r cause = absurd h

-- an answer, and want of memory, are among them

pub answer_finishes : (job : Job) (q : Request) (e : RawEnv) (bytes : List ℕ) (status : ℕ) → status ≡ 0 → RunFinishes job q e bytes status
answer_finishes Call q e bytes status is = record { among = (0, lit< tt, sym is); many = λ w. absurd (omega (arith, is, w)) }
answer_finishes _ q e bytes status is = record { among = (0, lit< tt, sym is); many = λ w. absurd (omega (arith, is, w)) }

pub memory_finishes : (job : Job) (q : Request) (e : RawEnv) (bytes : List ℕ) (status : ℕ) → status ≡ 1 → RunFinishes job q e bytes status
memory_finishes Call q e bytes status is = record { among = (1, lit< tt, sym is); many = λ w. absurd (omega (arith, is, w)) }
memory_finishes _ q e bytes status is = record { among = (1, lit< tt, sym is); many = λ w. absurd (omega (arith, is, w)) }
