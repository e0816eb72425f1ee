-- Where no limit of depth is passed, an answer or a refusal shows the status to which the rules, the passes and the run come.
use Rattle.std.proofs.Common.{◌≢◌, ℕ, List, Result, Ok, Err, ◌⊎◌, inl, inr, refl, sym, ap}
use Rattle.dump_reader.specs.Front.{front_bytes}
use Rattle.dump_reader.specs.declared.environment.RawEnv.{RawEnv}
use Rattle.command_line.specs.declared.job.Job.{Job}
use Rattle.command_line.specs.declared.job.Job.TheVariants.{Exec, Check, Eval, Run, Compile, Bench, Explain, Export, Call, Verify, Cert}
use Rattle.command_line.specs.declared.line.Request.{Request}
use Rattle.driver.specs.declared.refusal.Refusal.{Refusal}
use Rattle.driver.specs.declared.refusal.Refusal.TheVariants as refusals
use Rattle.driver.specs.Judged.{EndsWith, IsAcceptedBy, status_by}
use Rattle.driver.specs.Lines.{status_of}
use Rattle.driver.specs.ExecEnds.{Accepting, ExecEnds, ExecEndsWith, RestEndsWith, status_of_end}
use Rattle.driver.specs.MadeModule.{IsMakeCause, MakeEndsWith}
use Rattle.driver.specs.Exported.{IsExportCause, ExportEndsWith}
use Rattle.driver.specs.CallEnds.{CallJobEnds, IsCallStop}
use Rattle.driver.specs.Called.{CallIsJudged, CallRestEndsWith}
use Rattle.driver.specs.RunFile.{IsRunCause, RunEndsWith}
use Rattle.driver.specs.SourceEnds.{EvalEndsWith, IsSourceCause}
use Rattle.driver.specs.Texts.{SpellsWithin}
use Rattle.driver.specs.Serve.{IsAnswerOf, IsCallCause, IsCheckCause, IsDumpCause, IsJobCause, IsJudgedWith, IsSure, IsTextCause, IsVerifyCause, JobEndsWith}
use Rattle.driver.proofs.CheckCauses.{deep_or_not, not_zero}
use Rattle.driver.proofs.ExecCauses.{accepting_of}
use Rattle.driver.proofs.MadeCauses.{as_exec}
use Rattle.driver.proofs.ExportCauses.{export_accepts}
use Rattle.driver.proofs.CallJobCauses.{call_accepts}
use Rattle.driver.proofs.VerifyCauses.{certificate_ends, walked_ends}
use Rattle.driver.proofs.SourceCauses.{accepted_by, end_status}
use Rattle.driver.specs.VerifyEnds.{VerifyIsJudged}
use Rattle.driver.specs.Shallow.{CheckIsShallow, EvalIsShallow, ModuleIsShallow, CallIsShallow, IsShallow, IsShallowFor, IsShallowOn}

-- ---- the check

accepted_ends : (turns : ℕ) (e : RawEnv) → CheckIsShallow turns e → IsAcceptedBy turns e → EndsWith turns e 0
accepted_ends turns e s a = record { rules = a.rules; judged = a.judged; within = s a.rules a.judged; status_is = ap status_by (sym a.accepts) }

check_ends : (turns : ℕ) (r : Refusal) (e : RawEnv) → CheckIsShallow turns e → IsCheckCause turns r e → EndsWith turns e (status_of r)
check_ends turns refusals.TurnsSpent e s c = record { rules = c.rules; judged = c.judged; within = s c.rules c.judged; status_is = ap status_by (sym c.spends) }
check_ends turns refusals.Depth e s c = absurd (deep_or_not c.rules.deep c.deep (s c.rules c.judged))
check_ends turns (refusals.Broken n p) e s c = record { rules = c.rules; judged = c.judged; within = s c.rules c.judged; status_is = ap status_by (sym c.breaks) }
check_ends turns _ e s c = absurd c

accepting_ends : (turns : ℕ) (e : RawEnv) → CheckIsShallow turns e → Accepting turns e → EndsWith turns e 0
accepting_ends turns e s x = accepted_ends turns e s (accepted_by turns e x.kept x.type x.left x.accepted)

-- ---- what comes after it

eval_ends : (turns : ℕ) (r : Refusal) (e : RawEnv) → EvalIsShallow turns e → IsCheckCause turns r e ⊎ IsSourceCause turns r e → EvalEndsWith turns e (status_of r)
eval_ends turns r e s (inl c) = inl (check_ends turns r e s.check c, not_zero r)
eval_ends turns r e s (inr c) =
    let within = s.run c.run c.of in
    inr (record {
      check = accepted_ends turns e s.check (accepted_by turns e c.of.kept c.of.type c.of.left c.of.accepted);
      run = c.run;
      of = c.of;
      within = within;
      status_is = sym (end_status r c.run c.left c.shows within);
    })

module _ (turns : ℕ) (e : RawEnv) (s : ModuleIsShallow turns e) (pages steps : ℕ) where
  rest_ends : Accepting turns e → (end : Result (List ℕ) Refusal) → ExecEnds turns e pages steps end → RestEndsWith turns e pages steps (status_of_end end)
  rest_ends x end h = record { check = accepting_ends turns e s.check x; end = end; ends = h; search_within = s.search; erasure_within = s.erasure; status_is = refl }

  exec_answers : (text : List ℕ) → ExecEnds turns e pages steps (Ok text) → ExecEndsWith turns e pages steps 0
  exec_answers text h = inr (rest_ends h.0.before.before.before.before (Ok text) h)

  exec_ends : {P : Type 0} (r : Refusal) → IsCheckCause turns r e ⊎ (ExecEnds turns e pages steps (Err r) × P) → ExecEndsWith turns e pages steps (status_of r)
  exec_ends r (inl c) = inl (check_ends turns r e s.check c, not_zero r)
  exec_ends r (inr (c, p)) = inr (rest_ends (accepting_of turns e pages steps r c.1) (Err r) c)

  make_ends : {P : Type 0} (r : Refusal) → IsCheckCause turns r e ⊎ (IsMakeCause turns pages r e × P) → MakeEndsWith turns e pages (status_of r)
  make_ends r (inl c) = inl (check_ends turns r e s.check c, not_zero r)
  make_ends r (inr (c, p)) = inr (inr (record {
    check = accepting_ends turns e s.check (accepting_of turns e pages steps r (as_exec turns e pages steps r c.1));
    refusal = r;
    cause = c;
    search_within = s.search;
    erasure_within = s.erasure;
    status_is = refl;
  }))

export_ends : {P : Type 0} (turns : ℕ) (e : RawEnv) (s : CallIsShallow turns e) (pages : ℕ) (r : Refusal) → IsCheckCause turns r e ⊎ (IsExportCause turns pages r e × P) → ExportEndsWith turns e pages (status_of r)
export_ends turns e s pages r (inl c) = inl (check_ends turns r e s.check c, not_zero r)
export_ends turns e s pages r (inr (c, p)) = inr (inr (record {
  check = accepting_ends turns e s.check (export_accepts turns e pages r c.1);
  refusal = r;
  cause = c;
  within = s.rules;
  status_is = refl;
}))

-- ---- a job's refusal on an environment

job_ends : (job : Job) (q : Request) (r : Refusal) (e : RawEnv) → IsShallow job q.turns e → IsJobCause job q r e → JobEndsWith job q e (status_of r)
job_ends Exec q r e s c = exec_ends q.turns e s q.pages q.steps r c
job_ends Check q r e s c = check_ends q.turns r e s c
job_ends Eval q r e s c = eval_ends q.turns r e s c
job_ends Run q r e s c = absurd c
job_ends Explain q r e s c = absurd c
job_ends Call q r e s c = absurd c
job_ends Verify q r e s c = absurd c
job_ends Cert q r e s c = check_ends q.turns r e s c
job_ends Compile q r e s c = make_ends q.turns e s q.pages 0 r c
job_ends Export q r e s c = export_ends q.turns e s q.pages r c
job_ends Bench q r e s c = exec_ends q.turns e s q.pages q.steps r c

-- of a dump the text itself refuses, or the environment that it spells does
dump_ends : (job : Job) (q : Request) (bytes : List ℕ) (r : Refusal) → IsShallowFor job q.turns bytes → IsDumpCause job q r bytes →
    IsSure r ⊎ ((e : RawEnv) × SpellsWithin bytes e × JobEndsWith job q e (status_of r))
dump_ends job q bytes refusals.Memory s h = absurd h
dump_ends job q bytes refusals.Usage s h = absurd h
dump_ends job q bytes refusals.ReadFault s h = absurd h
dump_ends job q bytes refusals.WriteFault s h = absurd h
dump_ends job q bytes refusals.InputBytes s h = absurd h
dump_ends job q bytes (refusals.Syntax o) s h = inl tt
dump_ends job q bytes (refusals.Unsupported w o) s h = inl tt
dump_ends job q bytes (refusals.Limit l) s h = inl tt
dump_ends job q bytes r s (e, spelled, c) = inr (e, spelled, job_ends job q r e (s e spelled) c)

-- so by `call`
called_ends : (q : Request) (bytes : List ℕ) (e : RawEnv) → CallIsShallow q.turns e → Accepting q.turns e → (end : Result (List ℕ) Refusal) → CallJobEnds q.turns e bytes q.pages q.steps end →
    CallRestEndsWith q.turns e bytes q.pages q.steps (status_of_end end)
called_ends q bytes e s x end h = record { check = accepting_ends q.turns e s.check x; end = end; ends = h; within = s.rules; status_is = refl }

call_ends_on : {P : Type 0} (q : Request) (bytes : List ℕ) (e : RawEnv) (r : Refusal) → CallIsShallow q.turns e → IsCheckCause q.turns r e ⊎ (IsCallStop q.turns q.pages q.steps bytes r e × P) →
    (EndsWith q.turns e (status_of r) × (status_of r ≢ 0)) ⊎ CallRestEndsWith q.turns e bytes q.pages q.steps (status_of r)
call_ends_on q bytes e r s (inl c) = inl (check_ends q.turns r e s.check c, not_zero r)
call_ends_on q bytes e r s (inr (c, p)) = inr (called_ends q bytes e s (call_accepts q.turns e bytes q.pages q.steps r c.1) (Err r) c)

call_ends : (q : Request) (bytes : List ℕ) (r : Refusal) → IsShallowFor Call q.turns (front_bytes bytes) → IsCallCause q r bytes → IsSure r ⊎ CallIsJudged q (status_of r) bytes
call_ends q bytes refusals.Memory s h = absurd h
call_ends q bytes refusals.Usage s h = absurd h
call_ends q bytes refusals.ReadFault s h = absurd h
call_ends q bytes refusals.WriteFault s h = absurd h
call_ends q bytes refusals.InputBytes s h = absurd h
call_ends q bytes (refusals.Syntax o) s h = inl tt
call_ends q bytes (refusals.Unsupported w o) s h = inl tt
call_ends q bytes (refusals.Limit l) s h = inl tt
call_ends q bytes r s (e, spelled, c) = inr (e, spelled, call_ends_on q bytes e r (s e spelled) c)

-- and by `verify`
verify_ends : (q : Request) (bytes : List ℕ) (r : Refusal) → IsShallowOn Verify q.turns bytes → IsVerifyCause q r bytes → IsSure r ⊎ VerifyIsJudged q.turns (status_of r) bytes
verify_ends q bytes refusals.Memory s h = absurd h
verify_ends q bytes refusals.Usage s h = absurd h
verify_ends q bytes refusals.ReadFault s h = absurd h
verify_ends q bytes refusals.WriteFault s h = absurd h
verify_ends q bytes refusals.InputBytes s h = absurd h
verify_ends q bytes (refusals.Syntax o) s h = inl tt
verify_ends q bytes (refusals.Unsupported w o) s h = inl tt
verify_ends q bytes (refusals.Limit l) s h = inl tt
verify_ends q bytes r s (e, spelled, c) = inr (e, spelled, certificate_ends q.turns e bytes (s e spelled) r c)

run_ends : (pages steps : ℕ) (r : Refusal) (bytes : List ℕ) → IsRunCause pages steps r bytes → RunEndsWith pages steps bytes (status_of r)
run_ends pages steps refusals.Memory bytes h = absurd h
run_ends pages steps refusals.Usage bytes h = absurd h
run_ends pages steps refusals.ReadFault bytes h = absurd h
run_ends pages steps refusals.WriteFault bytes h = absurd h
run_ends pages steps refusals.InputBytes bytes h = absurd h
run_ends pages steps r bytes h = record { end = Err h.why; ends = h.ends; other = λ e. h.other cc; status_is = ap status_of h.is }

pub cause_judged : (job : Job) (q : Request) (bytes : List ℕ) (r : Refusal) → IsShallowOn job q.turns bytes → IsTextCause job q r bytes → IsSure r ⊎ IsJudgedWith job q (status_of r) bytes
cause_judged Run q bytes r s h = inr (run_ends q.pages q.steps r bytes h)
cause_judged Call q bytes r s h = call_ends q bytes r s h
cause_judged Verify q bytes r s h = verify_ends q bytes r s h
cause_judged job q bytes r s h = dump_ends job q bytes r s h

-- ---- a job's answer

pub answer_judged : (job : Job) (q : Request) (bytes text : List ℕ) → IsShallowOn job q.turns bytes → IsAnswerOf job q bytes text → IsJudgedWith job q 0 bytes
answer_judged Exec q bytes text s a = (a.environment, a.spelled, exec_answers q.turns a.environment (s a.environment a.spelled) q.pages q.steps text (a.stages, a.text_is))
answer_judged Check q bytes text s a = (a.environment, a.spelled, accepted_ends q.turns a.environment (s a.environment a.spelled) a.accepted)
answer_judged Eval q bytes text s a =
    let e = a.environment in
    let shallow = s e a.spelled in (
      e,
      a.spelled,
      inr (record {
        check = accepted_ends q.turns e shallow.check (accepted_by q.turns e a.kept a.type a.left a.accepted);
        run = a.run;
        of = a.ran;
        within = shallow.run a.run a.ran;
        status_is = sym a.ends;
      }),
    )
answer_judged Explain q bytes text s (inl a) = (a.environment, a.spelled, refl)
answer_judged Explain q bytes text s (inr a) = (a.environment, a.spelled, refl)
answer_judged Run q bytes text s a = record { end = Ok a.tree; ends = a.ends; other = λ e. cc; status_is = refl }
answer_judged Compile q bytes text s a =
    let e = a.environment in
    let shallow = s e a.spelled in (
      e,
      a.spelled,
      inr (inl (
        record { check = accepting_ends q.turns e shallow.check a.stages.before.before.before; stages = a.stages; small = a.small; search_within = shallow.search; erasure_within = shallow.erasure },
        refl,
      )),
    )
answer_judged Export q bytes text s a =
    let e = a.environment in
    let shallow = s e a.spelled in (
      e,
      a.spelled,
      inr (inl (record { check = accepting_ends q.turns e shallow.check a.stages.before.before.before; stages = a.stages; small = a.small; within = shallow.rules }, refl)),
    )
answer_judged Call q bytes text s a =
    let e = a.environment in (
      e,
      a.spelled,
      inr (called_ends q bytes e (s e a.spelled) a.stages.before.before.before.before (Ok text) (a.stages, a.text_is)),
    )
answer_judged Verify q bytes text s a = (a.environment, a.spelled, walked_ends q.turns a.environment bytes (s a.environment a.spelled) a.walked)
answer_judged Cert q bytes text s a =
    let m = a.certified.made in
    let e = a.environment in
    (e, a.spelled, accepted_ends q.turns e (s e a.spelled) (accepted_by q.turns e m.kept m.type a.certified.left m.accepted))
answer_judged Bench q bytes text s a =
    let x = a.executed in
    (x.environment, x.spelled, exec_answers q.turns x.environment (s x.environment x.spelled) q.pages q.steps a.answer (x.stages, x.text_is))
