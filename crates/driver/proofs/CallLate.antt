-- The late statuses of `call`: where main has a module for calls and the arguments are whole, each status of a refusal comes of the run or of its answer; and where the source tells its input, 15 does in any case.
use Rattle.std.proofs.Common.{◌≡◌, ◌≢◌, ◌∙◌, ℕ, List, Option, Some, Err, ◌⊎◌, inl, inr, refl, sym, ap, subst, arith}
use Rattle.calculus_rules.specs.FirstOrder.{Data, FitsShapes}
use Rattle.calculus_rules.proofs.Spines.{one_item}
use Rattle.dump_reader.specs.Front.{front_bytes}
use Rattle.dump_reader.specs.declared.environment.RawEnv.{RawEnv}
use Rattle.first_order.specs.Awaited.{ArgumentsAre}
use Rattle.first_order.specs.Searching.{members}
use Rattle.module_run.specs.declared.refusal.RunRefusal.{RunRefusal}
use Rattle.module_run.specs.declared.refusal.RunRefusal.TheVariants as running
use Rattle.module_run.specs.CallEnds.{CallEnds}
use Rattle.command_line.specs.declared.job.Job.TheVariants.{Call}
use Rattle.command_line.specs.declared.line.Request.{Request}
use Rattle.command_line.specs.Line.{request_of}
use Rattle.driver.specs.declared.refusal.Refusal.{Refusal}
use Rattle.driver.specs.declared.refusal.Refusal.TheVariants as refusals
use Rattle.driver.specs.declared.refusal.RunEnd.TheVariants as run_ends
use Rattle.driver.specs.declared.refusal.ArgumentFault.TheVariants as faults
use Rattle.driver.specs.declared.refusal.CertificateFault.TheVariants as certificates
use Rattle.driver.specs.CallStages.{CallCompiling, Signing, its_call_module}
use Rattle.driver.specs.CallEnds.{ArgumentsRefuse, CallAnswering, CallSays, CallStops, IsCallStop, ReadingArguments, answer_shapes, arguments_read, in_arguments, in_call_erasure, in_call_passes, in_call_run, in_call_text, in_signature}
use Rattle.driver.specs.Exported.{CallRulesAreWithin}
use Rattle.driver.specs.Judged.{EndsWith}
use Rattle.driver.specs.Lines.{status_of}
use Rattle.driver.specs.Serve.{HasAnswer, IsAnswerOf, IsCallCause, IsCause, IsCheckCause, IsInputOf, IsOfCall, IsOfText, IsRefused, IsSure, IsTextCause}
use Rattle.driver.specs.Called.{IsCallAnswer}
use Rattle.driver.specs.Texts.{SpellsWithin}
use Rattle.driver.proofs.CallCauses.{no_call_erasure, no_call_passes, no_signature}
use Rattle.driver.proofs.CallJobCauses.{call_run_status, of_call_run}
use Rattle.driver.proofs.CheckCauses.{cause_status, not_zero}
use Rattle.driver.proofs.ExecCauses.{refused}
use Rattle.driver.proofs.TextCauses.{one_environment}

-- a status that the run shows, or its answer, which isn't of the answer's types
pub data LateEnd (turns : ℕ) (e : RawEnv) (bytes : List ℕ) (pages steps status : ℕ) : Type 0 where
  of_run : (y : ReadingArguments turns e bytes) (x : CallCompiling turns e) (why : RunRefusal) → CallEnds (its_call_module pages x) pages steps y.arguments (Err why) → why ≢ running.Memory →
      status ≡ call_run_status (Err why) → LateEnd turns e bytes pages steps status
  of_answer : (x : CallAnswering turns e bytes pages steps) → (FitsShapes (members (answer_shapes x.before.before.before)) 0 x.answer.tree → ⊥) → status ≡ 15 → LateEnd turns e bytes pages steps status

module _ (turns : ℕ) (e : RawEnv) (bytes : List ℕ) (pages steps : ℕ) where
  run_late : (y : ReadingArguments turns e bytes) (x : CallCompiling turns e) (r : Refusal) → CallSays (its_call_module pages x) pages steps y.arguments (Err r) → r ≢ refusals.Memory → (status : ℕ) → status ≡ status_of r →
      LateEnd turns e bytes pages steps status
  run_late y x r k n status is = (let o = of_call_run (its_call_module pages x) pages steps y.arguments r k n in of_run y x o.why o.ends (λ same. o.other (ap refused same)) (is ∙ o.status))

  -- ---- the status 15

  fifteen_stop : (r : Refusal) → r ≢ refusals.Memory → CallStops turns e bytes pages steps r → status_of r ≡ 15 → LateEnd turns e bytes pages steps 15
  fifteen_stop (refusals.Run why) n (in_signature x w k) is = absurd k
  fifteen_stop (refusals.Run why) n (in_arguments x k) is = absurd k
  fifteen_stop (refusals.Run why) n (in_call_erasure y x w k) is = absurd k
  fifteen_stop (refusals.Run why) n (in_call_passes y x k) is = absurd k
  fifteen_stop (refusals.Run why) n (in_call_run y x valid k) is = run_late y x (refusals.Run why) k n 15 (sym is)
  fifteen_stop (refusals.Run (run_ends.NoValue word)) n (in_call_text x valid k) is = of_answer x k.1 refl
  fifteen_stop (refusals.Run _) n (in_call_text x valid k) is = absurd k
  fifteen_stop refusals.Stuck n c is =
      absurd (elim c [ in_signature x w k ↦ k | in_arguments x k ↦ k | in_call_erasure y x w k ↦ k | in_call_passes y x k ↦ k | in_call_run y x valid k ↦ k | in_call_text x valid k ↦ k ])
  fifteen_stop (refusals.Module why) n c is =
      absurd (elim c [ in_signature x w k ↦ k | in_arguments x k ↦ k | in_call_erasure y x w k ↦ k | in_call_passes y x k ↦ k | in_call_run y x valid k ↦ k | in_call_text x valid k ↦ k ])
  fifteen_stop (refusals.Argument faults.Nesting) n c is = absurd (omega (arith, is))
  fifteen_stop (refusals.Certificate certificates.Number) n c is = absurd (omega (arith, is))
  fifteen_stop _ n c is = absurd (omega (arith, is))

  fifteen_check : (r : Refusal) → IsCheckCause turns r e → status_of r ≡ 15 → ⊥
  fifteen_check refusals.Stuck c is = c
  fifteen_check (refusals.Run why) c is = c
  fifteen_check (refusals.Module why) c is = c
  fifteen_check (refusals.Argument why) c is = c
  fifteen_check (refusals.Certificate why) c is = c
  fifteen_check _ c is = omega (arith, is)

  fifteen : (r : Refusal) → IsCheckCause turns r e ⊎ IsCallStop turns pages steps bytes r e → status_of r ≡ 15 → LateEnd turns e bytes pages steps 15
  fifteen r (inl c) is = absurd (fifteen_check r c is)
  fifteen r (inr c) is = fifteen_stop r c.0 c.1 is

  -- ---- where main has a module for calls, and the arguments are whole

  none_fail : (x : Signing turns e) (ds : Data) → arguments_read bytes x.signature e.names ≡ ArgumentsAre ds → (r : Refusal) → ArgumentsRefuse bytes x.signature e.names r → r ≢ refusals.Memory → ⊥
  none_fail x ds is (refusals.Argument (faults.Syntax o)) k n = (let both = sym is ∙ k in cc)
  none_fail x ds is (refusals.Argument faults.Nesting) k n = (let both = sym is ∙ k in cc)
  none_fail x ds is (refusals.Argument faults.NameBytes) k n = (let both = sym is ∙ k in cc)
  none_fail x ds is (refusals.Argument (faults.Wrong o)) k n = (let both = sym is ∙ k in cc)
  none_fail x ds is refusals.Memory k n = n refl
  none_fail x ds is _ k n = k

  module _ (check : EndsWith turns e 0) (stages : CallCompiling turns e) (within : CallRulesAreWithin turns e) (ds : Data) (whole : (x : Signing turns e) → arguments_read bytes x.signature e.names ≡ ArgumentsAre ds) where
    late_stop : (r : Refusal) → r ≢ refusals.Memory → CallStops turns e bytes pages steps r → LateEnd turns e bytes pages steps (status_of r)
    late_stop r n (in_signature x w k) = absurd (no_signature turns e within r x w k n stages.before.before)
    late_stop r n (in_arguments x k) = absurd (none_fail x ds (whole x) r k n)
    late_stop r n (in_call_erasure y x w k) = absurd (no_call_erasure turns e within r x w k n stages.before)
    late_stop r n (in_call_passes y x k) = absurd (no_call_passes turns e pages r x k n stages)
    late_stop r n (in_call_run y x valid k) = run_late y x r k n (status_of r) refl
    late_stop (refusals.Run (run_ends.NoValue word)) n (in_call_text x valid k) = of_answer x k.1 refl
    late_stop refusals.Memory n (in_call_text x valid k) = absurd (n refl)
    late_stop _ n (in_call_text x valid k) = absurd k

    pub late : (r : Refusal) → (IsSure r → ⊥) → IsCheckCause turns r e ⊎ IsCallStop turns pages steps bytes r e → LateEnd turns e bytes pages steps (status_of r)
    late r n (inl k) = absurd (not_zero r (sym (cause_status turns r e 0 k n check)))
    late r n (inr k) = late_stop r k.0 k.1

-- ---- a call whose source tells its input

module _ (q : Request) (e : RawEnv) (bytes : List ℕ) (words : List (List ℕ)) (left : Option (List ℕ)) (asked : request_of words ≡ Some q) (job : q.job ≡ Call) (told : left ≡ Some bytes)
    (spelled : SpellsWithin (front_bytes bytes) e) where
  one_input : (r : Request) (other : List ℕ) → request_of words ≡ Some r → IsInputOf r.job r left other → (r ≡ q) × (other ≡ bytes)
  one_input r other is input =
      let same : r ≡ q = one_item (sym is ∙ asked) in
      let here : IsInputOf Call q left other = subst (λ j. IsInputOf j q left other) job (subst (λ (r : Request). IsInputOf r.job r left other) same input) in
      let there : IsInputOf Call q (Some bytes) other = subst (λ l. IsInputOf Call q l other) told here in
      (same, there.0)

  -- a refusal of the input
  input_cause : (r : Refusal) → IsOfText r words left → IsCallCause q r bytes
  input_cause r (p, is, (other, input, cause)) =
      let same = one_input p other is input in
      subst (λ b. IsCallCause q r b) same.1 (subst (λ j. IsTextCause j q r other) job (subst (λ (p : Request). IsTextCause p.job p r other) same.0 cause))

  -- that of the environment which the front spells
  of_front : (r : Refusal) → IsOfCall q r bytes → IsCheckCause q.turns r e ⊎ IsCallStop q.turns q.pages q.steps bytes r e
  of_front r (f, t, inl c) = inl (subst (IsCheckCause q.turns r) (one_environment (front_bytes bytes) f e t spelled) c)
  of_front r (f, t, inr c) = inr (subst (IsCallStop q.turns q.pages q.steps bytes r) (one_environment (front_bytes bytes) f e t spelled) c.0)

  -- the answer on status 0
  pub called_on : (text : List ℕ) → HasAnswer words left text → (a : IsCallAnswer q.turns q.pages q.steps bytes text) × (a.environment ≡ e)
  called_on text a =
      let same = one_input a.request a.bytes a.asked a.input in
      let c : IsCallAnswer q.turns q.pages q.steps bytes text =
      subst (λ b. IsCallAnswer q.turns q.pages q.steps b text) same.1 (subst (λ j. IsAnswerOf j q a.bytes text) job (subst (λ (p : Request). IsAnswerOf p.job p a.bytes text) same.0 a.answer)) in
      (c, one_environment (front_bytes bytes) c.environment e c.spelled spelled)

  fifteen_cause : (r : Refusal) (before now faulty faulty' : ℕ) → IsCause r words left before now faulty faulty' → status_of r ≡ 15 → LateEnd q.turns e bytes q.pages q.steps 15
  fifteen_cause refusals.Stuck before now faulty faulty' c is = fifteen q.turns e bytes q.pages q.steps refusals.Stuck (of_front refusals.Stuck (input_cause refusals.Stuck c)) is
  fifteen_cause (refusals.Run why) before now faulty faulty' c is = fifteen q.turns e bytes q.pages q.steps (refusals.Run why) (of_front (refusals.Run why) (input_cause (refusals.Run why) c)) is
  fifteen_cause (refusals.Module why) before now faulty faulty' c is = fifteen q.turns e bytes q.pages q.steps (refusals.Module why) (of_front (refusals.Module why) (input_cause (refusals.Module why) c)) is
  fifteen_cause (refusals.Argument faults.Nesting) before now faulty faulty' c is = absurd (omega (arith, is))
  fifteen_cause (refusals.Certificate certificates.Number) before now faulty faulty' c is = absurd (omega (arith, is))
  fifteen_cause _ before now faulty faulty' c is = absurd (omega (arith, is))

  -- status 15 is shown by the run, or by its answer
  pub call_fifteen : (status before now faulty faulty' : ℕ) (line line' : Option (List ℕ)) (errs errs' : ℕ) → IsRefused status words left before now faulty faulty' line line' errs errs' → status ≡ 15 →
      LateEnd q.turns e bytes q.pages q.steps 15
  call_fifteen status before now faulty faulty' line line' errs errs' h is = fifteen_cause h.refusal before now faulty faulty' h.cause (sym h.status_is ∙ is)
