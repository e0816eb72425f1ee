-- The clauses of the top call, from what its two halves say.
use Rattle.std.proofs.Common.{◌≡◌, ◌≢◌, ℕ, zero, suc, ◌<◌, ◌≤◌, List, [], ◌∷◌, ◌++◌, length, Option, Some, None, Result, Ok, Err, ◌⊎◌, inl, inr, refl, sym, ap, subst, ◌∙◌, arith, lit<}
use Rattle.std.specs.Prelude.{Contains, OnOk}
use Rattle.std.specs.Io.KnownBytes.{Appends}
use Rattle.kio.specs.Causes.{Rose}
use Rattle.calculus_rules.specs.FirstOrder.{Data}
use Rattle.dump_reader.specs.declared.environment.RawEnv.{RawEnv}
use Rattle.driver.specs.declared.refusal.Refusal.{Refusal}
use Rattle.driver.specs.declared.refusal.Refusal.TheVariants as refusals
use Rattle.driver.specs.declared.refusal.RunEnd.TheVariants as runs
use Rattle.driver.specs.declared.refusal.ModuleFault.TheVariants as modules
use Rattle.driver.specs.declared.refusal.ArgumentFault.TheVariants as arguments
use Rattle.driver.specs.declared.refusal.CertificateFault.TheVariants as certificates
use Rattle.command_line.specs.declared.line.Request.{Request}
use Rattle.command_line.specs.declared.job.Job.{Job}
use Rattle.command_line.specs.declared.job.Job.TheVariants.{Bench, Compile, Exec}
use Rattle.command_line.specs.Line.{IsInRange, request_of}
use Rattle.command_line.proofs.Ranges.{requests_lie_in_range}
use Rattle.driver.specs.Lines.{status_of}
use Rattle.lambda_box.specs.ClosureEvaluation.{Counts}
use Rattle.reports.specs.Shown.{Shown}
use Rattle.reports.specs.declared.fact.Fact.{Fact}
use Rattle.driver.specs.JobFacts.{HasJobFacts}
use Rattle.driver.specs.ReportLines.{told_lines}
use Rattle.driver.specs.Takes.{TakesLine, TakesPrefix}
use Rattle.driver.specs.Bench.{RunsModule, TakesFigures, lines_of}
use Rattle.driver.specs.SourceSays.{IsLine}
use Rattle.driver.specs.Served.{Seen, IsKept, Served}
use Rattle.driver.specs.Executed.{AnswersData, HasErasedData}
use Rattle.driver.specs.MadeModule.{TakesModule}
use Rattle.driver.specs.Serve.{CompilesMain, HasAnswer, Concludes, HasWell, environment_text, input_limit, IsAnswerableBy, IsAnswerOf, IsAsked, IsAskedOn, IsAskedOnText, IsCause, IsCheckCause, IsForJob, IsForReader, IsInput, IsInputOf, IsJudgedWith, IsLate, IsOfText, IsRefused, IsSure, IsTextCause, IsTooLong, MakesModule, MeetsNoFault, ReadsWell, ReadsNothing, Says, SourceTells}
use Rattle.driver.specs.Headline.{HasValue, ServesValue, EvaluatesErased, IsBoundedBy, GivesErased, IsCountedBy, HasMatches, TakesMatches}
use Rattle.driver.proofs.CheckCauses.{not_zero}
use Rattle.driver.proofs.Headlines.{value_data, value_exact, value_valid, value_runs, value_counts, value_text, no_fault, value_memory, value_steps, data_runs, data_memory, data_steps, counted_runs, counted_memory, counted_steps, late_runs, answered_late, answering_late}
use Rattle.driver.specs.ExecEnds.{ExecEnds, IsExecCause, Answering, its_shapes}
use Rattle.driver.specs.Promises.{CanRun, RunFinishes}
use Rattle.driver.proofs.ExecCauses.{memory_early, length_early, fault_early}
use Rattle.driver.proofs.RunFinishing.{answer_finishes, memory_finishes, refusal_finishes}
use Rattle.pc_terms.specs.declared.leaf.FamilyId.{FamilyId}
use Rattle.driver.specs.Plain.{IsPlainOf}
use Rattle.driver.specs.Answerable.{IsAnswerable}
use Rattle.driver.specs.PlainAnswer.{AnswersConstructor, NamesConstructor}
use Rattle.driver.proofs.JobCauses.{compile_cause, exec_cause}
use Rattle.driver.proofs.PlainAccepted.{accepted_plain}
use Rattle.driver.proofs.PlainCauses.{has_data, no_cause, not_stopped, constructor_text}
use Rattle.driver.proofs.ExecValues.{text_is, runs as every_run, no_other}
use Rattle.driver.proofs.TextCauses.{answerable_cause, cause_on, dump_not_sure, module_cause, well_on, well_answered, benched_on, executed_on, made_on, one_cause, judged_cause, no_cause_of_answers, judged_answer}

four_of : (n : ℕ) → 4 ≤ n → (rest : ℕ) × (n ≡ suc (suc (suc (suc rest))))
four_of (suc (suc (suc (suc n)))) le = (n, refl)
four_of _ le = absurd (omega (arith, le))

zero_or : (n : ℕ) → (n ≡ 0) ⊎ (n ≢ 0)
zero_or zero = inl refl
zero_or (suc n) = inr (λ e. omega (arith, e))

-- one value, none at a time
clash : (words : List (List ℕ)) → IsForJob words → request_of words ≡ None → ⊥
clash words (request, e) f = let q : Some request ≡ None = sym e ∙ f in absurd cc

-- and one request
pub one_request : (words : List (List ℕ)) (a b : Request) → request_of words ≡ Some a → request_of words ≡ Some b → a ≡ b
one_request words a b e f = let q : Some a ≡ Some b = sym e ∙ f in cc

input-is : (left : Option (List ℕ)) (bytes told : List ℕ) → IsInput left bytes → left ≡ Some told → (bytes ≡ told) × (length bytes ≤ input_limit)
input-is None bytes told h e = absurd cc
input-is (Some l) bytes told h e = let q : l ≡ told = cc in (h.0 ∙ q, h.1)

-- the bytes of a job are those that are told; an input is within the limit
pub input-of : (job : Job) (q : Request) (left : Option (List ℕ)) (bytes told : List ℕ) → IsInputOf job q left bytes → SourceTells job q left told → (bytes ≡ told) × (job ≢ Bench → length bytes ≤ input_limit)
input-of Bench q left bytes told h e = (h ∙ sym e, λ n. absurd (n refl))
input-of _ q left bytes told h e = let x = input-is left bytes told h e in (x.0, λ n. x.1)

-- a job that reads an input reads the source's
pub of-source : (job : Job) (q : Request) (left : Option (List ℕ)) (told : List ℕ) → job ≢ Bench → SourceTells job q left told → left ≡ Some told
of-source Bench q left told n e = absurd (n refl)
of-source _ q left told n e = e

pub long-is : (left : Option (List ℕ)) (told : List ℕ) → IsTooLong left → left ≡ Some told → input_limit < length told
long-is None told h e = absurd cc
long-is (Some l) told h e = let q : l ≡ told = cc in subst (λ x. input_limit < length x) q h

-- ---- statuses of refusals

of_usage : (r : Refusal) → status_of r ≡ 2 → r ≡ refusals.Usage
of_usage refusals.Usage e = refl
of_usage (refusals.Run runs.Exhausted) e = absurd (omega (arith, e))
of_usage (refusals.Module modules.Pages) e = absurd (omega (arith, e))
of_usage (refusals.Argument arguments.Nesting) e = absurd (omega (arith, e))
of_usage (refusals.Certificate certificates.Number) e = absurd (omega (arith, e))
of_usage _ e = absurd (omega (arith, e))

of_write_fault : (r : Refusal) → status_of r ≡ 4 → r ≡ refusals.WriteFault
of_write_fault refusals.WriteFault e = refl
of_write_fault (refusals.Run runs.Exhausted) e = absurd (omega (arith, e))
of_write_fault (refusals.Module modules.Pages) e = absurd (omega (arith, e))
of_write_fault (refusals.Argument arguments.Nesting) e = absurd (omega (arith, e))
of_write_fault (refusals.Certificate certificates.Number) e = absurd (omega (arith, e))
of_write_fault _ e = absurd (omega (arith, e))

abbrev all_statuses : List ℕ
all_statuses = 0 ∷ 1 ∷ 2 ∷ 3 ∷ 4 ∷ 5 ∷ 6 ∷ 7 ∷ 8 ∷ 9 ∷ 10 ∷ 11 ∷ 12 ∷ 13 ∷ 14 ∷ 15 ∷ 16 ∷ 17 ∷ []

module _ {V S K E : Type 0} (view : V → List ℕ) (lines : List ℕ) (status : ℕ) (words : List (List ℕ)) (src src' : Seen S) (out out' : Seen K) (err err' : Seen E) where
  -- what a job's result says, before anything is written
  abbrev Before : Result V Refusal → Type 0
  Before a = Says view a words src.told src.faults src'.faults

  -- what is written of it
  abbrev After : Result V Refusal → Type 0
  After a = Concludes view a lines status out.object out'.object out.told out'.told out.faults out'.faults err.object err'.object err.told err'.told err.faults err'.faults

  -- What a refusal before anything is written says.
  says_cause : (r : Refusal) → Before (Err r) → IsCause r words src.told src.faults src'.faults out.faults out'.faults
  says_cause refusals.WriteFault s = absurd s
  says_cause _ s = s

  -- All refusals but usage come of a job.
  of_job : (r : Refusal) → IsOfText r words src.told → IsForJob words
  of_job r s = (s.0, s.1)

  for_job : IsForReader words → IsForJob words
  for_job s = (s.0, s.1)

  says_job : (r : Refusal) → Before (Err r) → (r ≡ refusals.Usage) ⊎ ((r ≡ refusals.Memory) ⊎ IsForJob words)
  says_job refusals.Memory s = inr (inl refl)
  says_job refusals.Usage s = inl refl
  says_job refusals.ReadFault s = inr (inr (for_job s.0))
  says_job refusals.WriteFault s = absurd s
  says_job refusals.InputBytes s = inr (inr (for_job s.0))
  says_job r s = inr (inr (of_job r s))

  says_no_write_fault : (r : Refusal) → Before (Err r) → r ≡ refusals.WriteFault → ⊥
  says_no_write_fault r s e = subst (λ x. Says {V = V} view (Err x) words src.told src.faults src'.faults) e s

  done : (a : Result V Refusal) → Before a → After a → status ≡ 0 → (text : List ℕ) × HasAnswer words src.told text × Appends out.told out'.told text
  done (Ok v) s c e = (view v, s, (c.whole e).0)
  done (Err r) s c e = absurd (not_zero r (sym c.0 ∙ e))

  prefix : (a : Result V Refusal) → Before a → After a → status ≡ 4 → (text : List ℕ) × HasAnswer words src.told text × TakesPrefix out.told out'.told text
  prefix (Ok v) s c e = let w = c.part (λ z. omega (arith, e, z)) in (view v, s, w.2)
  prefix (Err r) s c e = absurd (says_no_write_fault r s (of_write_fault r (sym c.0 ∙ e)))

  nothing_out : (a : Result V Refusal) → Before a → After a → status ≢ 0 → status ≢ 4 → out'.object ≡ out.object
  nothing_out (Ok v) s c n m = absurd (m (c.part n).0)
  nothing_out (Err r) s c n m = c.1

  refused : (a : Result V Refusal) → Before a → After a → status ≢ 0 → IsRefused status words src.told src.faults src'.faults out.faults out'.faults err.told err'.told err.faults err'.faults
  refused (Ok v) s c n = let w = c.part n in record { refusal = refusals.WriteFault; status_is = w.0; cause = ((s.request, s.asked), w.1); told = w.3 }
  refused (Err r) s c n = record { refusal = r; status_is = c.0; cause = says_cause r s; told = c.2 }

  quiet : (a : Result V Refusal) → Before a → After a → status ≡ 0 → lines ≡ [] → err'.object ≡ err.object
  quiet (Ok v) s c e = (c.whole e).2
  quiet (Err r) s c e = absurd (not_zero r (sym c.0 ∙ e))

  -- the facts of the job, and the lines of the reports that are told them
  reported : {P : Type 0} → (a : Result V Refusal) → Before a → After a → OnOk a P → status ≡ 0 → P × TakesLine err.told err'.told err.faults err'.faults lines
  reported (Ok v) s c facts e = (facts, (c.whole e).1)
  reported (Err r) s c facts e = absurd (not_zero r (sym c.0 ∙ e))

  -- an answer's status is 0 or 4
  answered : (v : V) → After (Ok v) → (status ≡ 0) ⊎ (status ≡ 4)
  answered v c = elim (zero_or status) [ inl z ↦ inl z | inr n ↦ inr (c.part n).0 ]

  -- so none from 11 on
  not_answered : (v : V) → After (Ok v) → (m : ℕ) → 10 < m → status ≡ m → ⊥
  not_answered v c m big z = elim (answered v c) [ inl y ↦ omega (arith, y, z, big) | inr y ↦ omega (arith, y, z, big) ]

  not_usage : (v : V) → After (Ok v) → status ≡ 2 → ⊥
  not_usage v c e = elim (answered v c) [ inl z ↦ omega (arith, e, z) | inr z ↦ omega (arith, e, z) ]

  usage : (a : Result V Refusal) → Before a → After a → status ≡ 2 → request_of words ≡ None
  usage (Ok v) s c e = absurd (not_usage v c e)
  usage (Err r) s c e = subst (λ x. IsCause x words src.told src.faults src'.faults out.faults out'.faults) (of_usage r (sym c.0 ∙ e)) (says_cause r s)

  faulty : (a : Result V Refusal) → Before a → After a → (request_of words ≡ None → src'.object ≡ src.object) → request_of words ≡ None → (src'.object ≡ src.object) × ((status ≡ 2) ⊎ (status ≡ 1))
  faulty (Ok v) s c unread none = absurd (clash words (s.request, s.asked) none)
  faulty (Err r) s c unread none = (
    unread none,
    elim (says_job r s) [
      | inl q ↦ inl (c.0 ∙ ap status_of q)
      | inr (inl q) ↦ inr (c.0 ∙ ap status_of q)
      | inr (inr j) ↦ absurd (clash words j none)
    ],
  )

  listed : (r : Refusal) → status ≡ status_of r → Contains all_statuses status
  listed (refusals.Run runs.Exhausted) e = (11, lit< tt, sym e)
  listed (refusals.Module modules.Pages) e = (7, lit< tt, sym e)
  listed (refusals.Argument arguments.Nesting) e = (7, lit< tt, sym e)
  listed (refusals.Certificate certificates.Number) e = (7, lit< tt, sym e)
  listed r e = (status_of r, lit< tt, sym e)

  statuses : (a : Result V Refusal) → Before a → After a → Contains all_statuses status
  statuses (Ok v) s c = elim (answered v c) [ inl z ↦ (0, lit< tt, sym z) | inr z ↦ (4, lit< tt, sym z) ]
  statuses (Err r) s c = listed r c.0

  -- ---- where the source tells its bytes

  module _ (q : Request) (bytes : List ℕ) (asked : IsAsked q words src.told bytes) where
    -- its numbers lie in their ranges
    range : IsInRange q
    range = requests_lie_in_range words q asked.words_are

    -- what a refusal says of the bytes
    data Told (r : Refusal) : Type 0 where
      OfMemory : r ≡ refusals.Memory → Told r
      OfText : (q.job ≢ Bench → length bytes ≤ input_limit) → IsTextCause q.job q r bytes → Told r
      OfLength : r ≡ refusals.InputBytes → input_limit < length bytes → Told r
      OfFault : r ≡ refusals.ReadFault → q.job ≢ Bench → Rose src.faults src'.faults → Told r

    of_text : (r : Refusal) → IsOfText r words src.told → Told r
    of_text r (other, e, (found, input, cause)) =
        let one : other ≡ q = one_request words other q e asked.words_are in
        let (same, short) = input-of q.job q src.told found bytes (subst (λ o. IsInputOf o.job o src.told found) one input) asked.bytes_are in
        OfText (λ n. subst (λ b. length b ≤ input_limit) same (short n)) (subst (λ b. IsTextCause q.job q r b) same (subst (λ o. IsTextCause o.job o r found) one cause))

    -- its job reads an input
    reads : IsForReader words → q.job ≢ Bench
    reads (other, e, n) = subst (λ o. o.job ≢ Bench) (one_request words other q e asked.words_are) n

    told : (r : Refusal) → Before (Err r) → Told r
    told refusals.Memory s = OfMemory refl
    told refusals.Usage s = absurd (clash words (q, asked.words_are) s)
    told refusals.ReadFault s = OfFault refl (reads s.0) s.1
    told refusals.WriteFault s = absurd s
    told refusals.InputBytes s = OfLength refl (long-is src.told bytes s.1 (of-source q.job q src.told bytes (reads s.0) asked.bytes_are))
    told r s = of_text r s

    -- the answer is that of the bytes told
    answer_of : (v : V) → Before (Ok v) → (q.job ≢ Bench → length bytes ≤ input_limit) × IsAnswerOf q.job q bytes (view v)
    answer_of v s =
        let one : s.request ≡ q = one_request words s.request q s.asked asked.words_are in
        let (same, short) = input-of q.job q src.told s.bytes bytes (subst (λ o. IsInputOf o.job o src.told s.bytes) one s.input) asked.bytes_are in (
          (λ n. subst (λ b. length b ≤ input_limit) same (short n)),
          subst (λ b. IsAnswerOf q.job q b (view v)) same (subst (λ o. IsAnswerOf o.job o s.bytes (view v)) one s.answer),
        )

    judged : (a : Result V Refusal) → Before a → After a → (wanted : ℕ) → length bytes ≤ input_limit → ReadsWell q.job src.faults src'.faults → IsJudgedWith q.job q wanted bytes → (wanted ≡ 0 → ¬ Rose out.faults out'.faults) → (status ≡ wanted) ⊎ (status ≡ 1)
    judged (Ok v) s c wanted short well h calm =
        let zero = judged_answer q.job q bytes (view v) wanted short h (answer_of v s).1 in
        elim (zero_or status) [ inl z ↦ inl (z ∙ sym zero) | inr n ↦ absurd (calm zero (c.part n).1) ]
    judged (Err r) s c wanted short well h calm =
        elim (told r s) [
          | OfMemory m ↦ inr (c.0 ∙ ap status_of m)
          | OfText few cause ↦ inl (c.0 ∙ sym (judged_cause q.job q bytes wanted r short h cause))
          | OfLength m long ↦ absurd (omega (arith, long, short))
          | OfFault m reader rose ↦ absurd (well reader rose)
        ]

    refuses_text : (a : Result V Refusal) → Before a → After a → (r : Refusal) → length bytes ≤ input_limit → ReadsWell q.job src.faults src'.faults → IsTextCause q.job q r bytes → IsSure r → (status ≡ status_of r) ⊎ (status ≡ 1)
    refuses_text (Ok v) s c r short well cause sure = absurd (no_cause_of_answers q.job q bytes (view v) r (answer_of v s).1 cause sure)
    refuses_text (Err a) s c r short well cause sure =
        elim (told a s) [
          | OfMemory e ↦ inr (c.0 ∙ ap status_of e)
          | OfText few found ↦ inl (c.0 ∙ ap status_of (one_cause q.job q bytes a r found cause sure))
          | OfLength e long ↦ absurd (omega (arith, long, short))
          | OfFault e reader rose ↦ absurd (well reader rose)
        ]

    refuses_length : (a : Result V Refusal) → Before a → After a → q.job ≢ Bench → ¬ Rose src.faults src'.faults → input_limit < length bytes → (status ≡ 7) ⊎ (status ≡ 1)
    refuses_length (Ok v) s c n well long = let told = (answer_of v s).0 n in absurd (omega (arith, told, long))
    refuses_length (Err r) s c n well long =
        elim (told r s) [
          | OfMemory e ↦ inr (c.0 ∙ ap status_of e)
          | OfText few cause ↦ (let short = few n in absurd (omega (arith, long, short)))
          | OfLength e far ↦ inl (c.0 ∙ ap status_of e)
          | OfFault e reader rose ↦ absurd (well rose)
        ]

    -- and where they are within the limit
    data ToldWithin (r : Refusal) : Type 0 where
      NoMemory : r ≡ refusals.Memory → ToldWithin r
      OfEnvironment : IsTextCause q.job q r bytes → ToldWithin r
      NoRead : r ≡ refusals.ReadFault → q.job ≢ Bench → Rose src.faults src'.faults → ToldWithin r

    told_within : length bytes ≤ input_limit → (r : Refusal) → Before (Err r) → ToldWithin r
    told_within short r s =
        elim (told r s) [
          | OfMemory m ↦ NoMemory m
          | OfText few cause ↦ OfEnvironment cause
          | OfLength m long ↦ absurd (omega (arith, long, short))
          | OfFault m reader rose ↦ NoRead m reader rose
        ]

  -- no fault is met
  abbrev Calm : Request → Type 0
  Calm q = MeetsNoFault q.job src.faults src'.faults out.faults out'.faults

  -- ---- where the bytes, or by `call` and `verify` their front, spell an environment

  module _ (q : Request) (e : RawEnv) (d : IsAskedOnText q e words src.told) where
    told_on : (r : Refusal) → Before (Err r) → ToldWithin q d.bytes d.asked r
    told_on = told_within q d.bytes d.asked d.short

    complete : (a : Result V Refusal) → Before a → After a → IsAnswerableBy q.job q e d.bytes → Calm q → (status ≡ 0) ⊎ (status ≡ 1)
    complete (Ok v) s c h calm = elim (zero_or status) [ inl z ↦ inl z | inr n ↦ absurd (calm.1 (c.part n).1) ]
    complete (Err r) s c h calm =
        elim (told_on r s) [
          | NoMemory m ↦ inr (c.0 ∙ ap status_of m)
          | OfEnvironment cause ↦ absurd (answerable_cause q.job q d.bytes r e d.spelled h cause)
          | NoRead m reader rose ↦ absurd (calm.0 reader rose)
        ]

    -- where main has a module that the job runs
    finishing : (a : Result V Refusal) → Before a → After a → CanRun q.job q e d.bytes → Calm q → RunFinishes q.job q e d.bytes status
    finishing (Ok v) s c h calm = elim (zero_or status) [ inl z ↦ answer_finishes q.job q e d.bytes status z | inr n ↦ absurd (calm.1 (c.part n).1) ]
    finishing (Err r) s c h calm =
        elim (told_on r s) [
          | NoMemory m ↦ memory_finishes q.job q e d.bytes status (c.0 ∙ ap status_of m)
          | OfEnvironment cause ↦ subst (RunFinishes q.job q e d.bytes) (sym c.0) (refusal_finishes q.job q e d.bytes d.spelled h r cause)
          | NoRead m reader rose ↦ absurd (calm.0 reader rose)
        ]

  -- ---- where the bytes spell an environment

  module _ (q : Request) (e : RawEnv) (d : IsAskedOn q e words src.told) where
    in_range : IsInRange q
    in_range = range q d.bytes d.asked

    -- what a refusal says of it
    told_of : (r : Refusal) → Before (Err r) → ToldWithin q d.bytes d.asked r
    told_of = told_within q d.bytes d.asked d.short

    -- an answer, as one of `exec` and of `compile`

    executed : (v : V) → Before (Ok v) → q.job ≡ Exec → ExecEnds q.turns e q.pages q.steps (Ok (view v))
    executed v s exec = executed_on q d.bytes (view v) e d.spelled (subst (λ j. IsAnswerOf j q d.bytes (view v)) exec (answer_of q d.bytes d.asked v s).1)

    -- the text of the answer, and the run that gives it, behind the figures of which it stands
    benched : (v : V) → Before (Ok v) → q.job ≡ Bench → (answer : List ℕ) × (x : Answering q.turns e q.pages q.steps) × IsLine (its_shapes x.before.before) e.names x.answer.tree answer × (view v ≡ lines_of x answer)
    benched v s bench = benched_on q d.bytes (view v) e d.spelled (subst (λ j. IsAnswerOf j q d.bytes (view v)) bench (answer_of q d.bytes d.asked v s).1)

    figures : (v : V) (s : Before (Ok v)) → After (Ok v) → (bench : q.job ≡ Bench) → status ≡ 0 → TakesFigures q e (benched v s bench).0 out.told out'.told
    figures v s c bench z = let (answer, x, line, is) = benched v s bench in record { stages = x; takes = subst (Appends out.told out'.told) is (c.whole z).0 }

    -- an answer of a job that runs the module, by its run
    ran : (v : V) → Before (Ok v) → RunsModule q.job → (answer : List ℕ) × ExecEnds q.turns e q.pages q.steps (Ok answer)
    ran v s (inl exec) = (view v, executed v s exec)
    ran v s (inr bench) = let (answer, x, line, is) = benched v s bench in (answer, (x, line))

    written : (v : V) → Before (Ok v) → After (Ok v) → q.job ≡ Compile → status ≡ 0 → TakesModule q e out.told out'.told
    written v s c made z =
        let x = made_on q d.bytes (view v) e d.spelled (subst (λ j. IsAnswerOf j q d.bytes (view v)) made (answer_of q d.bytes d.asked v s).1) in
        record { stages = x.0; text = view v; takes = (c.whole z).0; spells = x.1 }

    -- what no cause of a refusal has is no status of one
    never : (r : Refusal) → Before (Err r) → After (Err r) → MakesModule q.job → (m : ℕ) → 3 < m → (IsCheckCause q.turns r e ⊎ IsExecCause q.turns q.pages q.steps r e → status_of r ≡ m → ⊥) → status ≡ m → ⊥
    never r s c makes m big differs z =
        elim (told_of r s) [
          | NoMemory y ↦ (let one : status ≡ 1 = c.0 ∙ ap status_of y in omega (arith, one, z, big))
          | NoRead y reader rose ↦ (let three : status ≡ 3 = c.0 ∙ ap status_of y in omega (arith, three, z, big))
          | OfEnvironment cause ↦ differs (module_cause q d.bytes e r d.spelled makes cause) (sym c.0 ∙ z)
        ]

    -- where main's erased program evaluates to data
    values : (a : Result V Refusal) → Before a → After a → (ds : Data) (n k : ℕ) → MakesModule q.job → HasErasedData q.turns e ds n k → AnswersData q e ds status out.told out'.told
    values (Ok v) s c ds n k makes h = record {
      runs = every_run q in_range e ds n k h;
      text = λ exec z. (view v, text_is q in_range e ds n k h (view v) (executed v s exec), (c.whole z).0);
      figures = λ bench z. let (answer, x, line, is) = benched v s bench in (answer, text_is q in_range e ds n k h answer (x, line), figures v s c bench z);
      object = written v s c;
      answers = not_answered v c 15 (lit< tt);
    }
    values (Err r) s c ds n k makes h = record {
      runs = every_run q in_range e ds n k h;
      text = λ exec z. absurd (not_zero r (sym c.0 ∙ z));
      figures = λ bench z. absurd (not_zero r (sym c.0 ∙ z));
      object = λ made z. absurd (not_zero r (sym c.0 ∙ z));
      answers = never r s c makes 15 (lit< tt) (no_other q in_range e ds n k h r);
    }

    -- where it is plain and keeps all rules

    runs_no_object : RunsModule q.job → q.job ≢ Compile
    runs_no_object (inl exec) made = let e : Exec ≡ Compile = sym exec ∙ made in cc
    runs_no_object (inr bench) made = let e : Bench ≡ Compile = sym bench ∙ made in cc

    never_plain : (h : IsAnswerable e) (r : Refusal) → MakesModule q.job → 4 ≤ q.turns → (q.job ≢ Compile → 1052672 ≤ q.steps) → IsTextCause q.job q r d.bytes → ⊥
    never_plain h r (inl exec) four enough cause =
        let (rest, is) = four_of q.turns four in
        let it = subst (λ j. IsTextCause j q r d.bytes) exec cause in
        no_cause q rest is e h in_range (enough (runs_no_object (inl exec))) r (exec_cause q r e (cause_on Exec q d.bytes e r d.spelled it)) (dump_not_sure Exec q d.bytes e r d.spelled it)
    never_plain h r (inr (inr bench)) four enough cause =
        let (rest, is) = four_of q.turns four in
        let it = subst (λ j. IsTextCause j q r d.bytes) bench cause in
        no_cause q rest is e h in_range (enough (runs_no_object (inr bench))) r (exec_cause q r e (cause_on Bench q d.bytes e r d.spelled it)) (dump_not_sure Bench q d.bytes e r d.spelled it)
    never_plain h r (inr (inl made)) four enough cause =
        let (rest, is) = four_of q.turns four in
        let it = subst (λ j. IsTextCause j q r d.bytes) made cause in
        not_stopped q rest is e h r (compile_cause q r e (cause_on Compile q d.bytes e r d.spelled it)) (dump_not_sure Compile q d.bytes e r d.spelled it)

    plain : (a : Result V Refusal) → Before a → After a → (h : IsAnswerable e) → MakesModule q.job → 4 ≤ q.turns → (q.job ≢ Compile → 1052672 ≤ q.steps) →
        AnswersConstructor q e h status (Calm q) out.told out'.told
    plain (Ok v) s c h makes four enough =
        let (rest, is) = four_of q.turns four in
        record {
          text = λ exec z. let n = constructor_text q rest is e h in_range (enough (runs_no_object (inl exec))) (view v) (executed v s exec) in (n.0, n.1, subst (Appends out.told out'.told) n.2 (c.whole z).0);
          object = written v s c;
          complete = λ calm. elim (zero_or status) [ inl z ↦ inl z | inr n ↦ absurd (calm.1 (c.part n).1) ];
          data_is = has_data q rest is e h;
        }
    plain (Err r) s c h makes four enough =
        let (rest, is) = four_of q.turns four in
        record {
          text = λ exec z. absurd (not_zero r (sym c.0 ∙ z));
          object = λ made z. absurd (not_zero r (sym c.0 ∙ z));
          complete = λ calm. elim (told_of r s) [
            | NoMemory m ↦ inr (c.0 ∙ ap status_of m)
            | OfEnvironment cause ↦ absurd (never_plain h r makes four enough cause)
            | NoRead m reader rose ↦ absurd (calm.0 reader rose)
          ];
          data_is = has_data q rest is e h;
        }

    -- where it is plain and accepted
    named : (a : Result V Refusal) → Before a → After a → (f : FamilyId) (n : ℕ) → q.job ≡ Exec → 4 ≤ q.turns → 1052672 ≤ q.steps → IsPlainOf e f n → status ≡ 0 →
        (name : List ℕ) × NamesConstructor e f n name × Appends out.told out'.told (name ++ 10 ∷ [])
    named (Ok v) s c f n exec four enough p z =
        let (rest, is) = four_of q.turns four in
        let x = executed v s exec in
        let k = x.0.before.before.before.before in
        let w = accepted_plain q.turns e f n k.kept k.type k.left p k.accepted in
        let t = constructor_text q rest is e w.0 in_range enough (view v) x in
        let names = subst (λ i. NamesConstructor e i n t.0) w.1 (subst (λ j. NamesConstructor e (w.0).id j t.0) w.2 t.1) in
        (t.0, names, subst (Appends out.told out'.told) t.2 (c.whole z).0)
    named (Err r) s c f n exec four enough p z = absurd (not_zero r (sym c.0 ∙ z))

    -- where main, of a first-order type, evaluates to a value
    valued : (a : Result V Refusal) → Before a → After a → (n : ℕ) → MakesModule q.job → (h : HasValue q.turns e n) → ServesValue q e n status h out.told out'.told
    valued (Ok v) s c n makes h = record {
      tree = value_data q in_range d.bytes e d.spelled n h;
      exactly = value_exact q in_range d.bytes e d.spelled n h;
      valid = value_valid q in_range d.bytes e d.spelled n h;
      runs = value_runs q in_range d.bytes e d.spelled n h;
      counted = value_counts q in_range d.bytes e d.spelled n h;
      text = λ exec z. (view v, value_text q in_range d.bytes e d.spelled n h (view v) (executed v s exec), (c.whole z).0);
      figures = λ bench z. let (answer, x, line, is) = benched v s bench in (answer, value_text q in_range d.bytes e d.spelled n h answer (x, line), figures v s c bench z);
      object = written v s c;
      answers = not_answered v c 15 (lit< tt);
      bounded = record { not_exhausted = λ big. not_answered v c 11 (lit< tt); not_spent = λ few. not_answered v c 12 (lit< tt) };
    }
    valued (Err r) s c n makes h = record {
      tree = value_data q in_range d.bytes e d.spelled n h;
      exactly = value_exact q in_range d.bytes e d.spelled n h;
      valid = value_valid q in_range d.bytes e d.spelled n h;
      runs = value_runs q in_range d.bytes e d.spelled n h;
      counted = value_counts q in_range d.bytes e d.spelled n h;
      text = λ exec z. absurd (not_zero r (sym c.0 ∙ z));
      figures = λ bench z. absurd (not_zero r (sym c.0 ∙ z));
      object = λ made z. absurd (not_zero r (sym c.0 ∙ z));
      answers = never r s c makes 15 (lit< tt) (no_fault q in_range d.bytes e d.spelled n h r);
      bounded = record {
        not_exhausted = λ big. never r s c makes 11 (lit< tt) (λ y z. value_memory q in_range d.bytes e d.spelled n h r y z big);
        not_spent = λ few. never r s c makes 12 (lit< tt) (λ y z. value_steps q in_range d.bytes e d.spelled n h r y z few);
      };
    }

    -- where its erased program evaluates to data of whichever type
    bounded : (a : Result V Refusal) → Before a → After a → (n : ℕ) → MakesModule q.job → (h : EvaluatesErased q.turns e n) → IsBoundedBy q e n h status
    bounded (Ok v) s c n makes h = record {
      runs = data_runs q in_range d.bytes e d.spelled n h;
      bounded = record { not_exhausted = λ big. not_answered v c 11 (lit< tt); not_spent = λ few. not_answered v c 12 (lit< tt) };
    }
    bounded (Err r) s c n makes h = record {
      runs = data_runs q in_range d.bytes e d.spelled n h;
      bounded = record {
        not_exhausted = λ big. never r s c makes 11 (lit< tt) (λ y z. data_memory q in_range d.bytes e d.spelled n h r y z big);
        not_spent = λ few. never r s c makes 12 (lit< tt) (λ y z. data_steps q in_range d.bytes e d.spelled n h r y z few);
      };
    }

    -- where its saturated program gives data by evaluation with environments
    counted : (a : Result V Refusal) → Before a → After a → (k : Counts) → MakesModule q.job → (h : GivesErased q.turns e k) → IsCountedBy q e k h status
    counted (Ok v) s c k makes h = record {
      runs = counted_runs q in_range d.bytes e d.spelled k h;
      bounded = record { not_exhausted = λ big. not_answered v c 11 (lit< tt); not_spent = λ few. not_answered v c 12 (lit< tt) };
    }
    counted (Err r) s c k makes h = record {
      runs = counted_runs q in_range d.bytes e d.spelled k h;
      bounded = record {
        not_exhausted = λ big. never r s c makes 11 (lit< tt) (λ y z. counted_memory q in_range d.bytes e d.spelled k h r y z big);
        not_spent = λ few. never r s c makes 12 (lit< tt) (λ y z. counted_steps q in_range d.bytes e d.spelled k h r y z few);
      };
    }

    -- where its saturated program evaluates to data
    matched : (a : Result V Refusal) → Before a → After a → (matches : ℕ) → HasMatches q.turns e matches → TakesMatches q e matches status
    matched (Ok v) s c matches h = record {
      runs = late_runs q in_range d.bytes e d.spelled matches h;
      figure = answering_late q in_range d.bytes e d.spelled matches h;
      late = λ runs more z. let (answer, x) = ran v s runs in let late = answered_late q in_range d.bytes e d.spelled matches h answer x in omega (arith, late, more);
    }
    matched (Err r) s c matches h = record { runs = late_runs q in_range d.bytes e d.spelled matches h; figure = answering_late q in_range d.bytes e d.spelled matches h; late = λ runs more z. absurd (not_zero r (sym c.0 ∙ z)) }

  well : (a : Result V Refusal) → Before a → After a → (q : Request) (bytes : List ℕ) → IsAsked q words src.told bytes → CompilesMain q.job → IsLate status → HasWell (environment_text q.job bytes)
  well (Ok v) s c q bytes asked makes late = well_answered q bytes (view v) makes (answer_of q bytes asked v s).1
  well (Err r) s c q bytes asked makes late =
      let at = subst IsLate c.0 late in
      elim (told q bytes asked r s) [
        | OfMemory m ↦ absurd (memory_early (subst (λ x. IsLate (status_of x)) m at))
        | OfText few cause ↦ well_on q bytes r makes cause at
        | OfLength m long ↦ absurd (length_early (subst (λ x. IsLate (status_of x)) m at))
        | OfFault m reader rose ↦ absurd (fault_early (subst (λ x. IsLate (status_of x)) m at))
      ]

  -- ---- all of it together

  pub served : (a : Result V Refusal) → Before a → After a → (reports : List Shown) → OnOk a ((facts : List Fact) × HasJobFacts words src.told facts × (lines ≡ told_lines facts reports)) → (ReadsNothing words → src'.object ≡ src.object) →
      IsKept src src' → IsKept out out' → IsKept err err' → Served status words reports src src' out out' err err'
  served a s c reports facts unread kept kept' kept'' = record {
    done = done a s c;
    statuses = statuses a s c;
    refused = refused a s c;
    usage = usage a s c;
    faulty = faulty a s c (λ none. unread (λ q e. absurd (clash words (q, e) none)));
    prefix = prefix a s c;
    judged = λ q bytes wanted (asked, short) well h calm. judged q bytes asked a s c wanted short well h calm;
    complete = λ q e d h calm. complete q e d a s c h calm;
    values = λ q e ds n k (d, makes) h. values q e d a s c ds n k makes h;
    plain = λ q e h (d, makes) four enough. plain q e d a s c h makes four enough;
    named = λ q e f n d exec four enough p z. named q e d a s c f n exec four enough p z;
    finishes = λ q e d h calm. finishing q e d a s c h calm;
    well = well a s c;
    headline = λ q e n (d, makes) h. valued q e d a s c n makes h;
    bounded = λ q e n (d, makes) h. bounded q e d a s c n makes h;
    counted = λ q e k (d, makes) h. counted q e d a s c k makes h;
    matched = λ q e matches (d, makes) h. matched q e d a s c matches h;
    refuses_text = λ q bytes r (asked, short) well cause sure. refuses_text q bytes asked a s c r short well cause sure;
    refuses_length = λ q bytes asked n well long. refuses_length q bytes asked a s c n well long;
    nothing_out = nothing_out a s c;
    reported = λ z. let ((found, of, are), line) = reported a s c facts z in (found, of, subst (λ l. TakesLine err.told err'.told err.faults err'.faults l) are line);
    unread = unread;
    quiet = λ z none. let ((found, of, are), line) = reported a s c facts z in quiet a s c z (are ∙ ap (told_lines found) none);
    source = kept;
    sinks = (kept', kept'');
  }
