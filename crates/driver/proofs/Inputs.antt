-- The bytes of a job and the answer on them, from what reading and the job say.
use Rattle.std.proofs.Common.{◌≡◌, ◌≢◌, ℕ, List, [], Option, Some, Result, Ok, Err, refl, sym, subst}
use Rattle.std.specs.Prelude.{IfOk, IfErr, OnOk}
use Rattle.std.proofs.lemmas.Result.{on_ok_weaker}
use Rattle.std.specs.Io.KnownBytes.{Appends}
use Rattle.driver.specs.Takes.{TakesLine}
use Rattle.workload.specs.WorkloadText.{text_of}
use Rattle.reports.specs.Shown.{Shown}
use Rattle.driver.specs.JobFacts.{CallIsTold, JobIsTold}
use Rattle.command_line.specs.declared.job.Job.{Job}
use Rattle.command_line.specs.declared.job.Job.TheVariants.{Exec, Bench}
use Rattle.command_line.specs.declared.line.Request.{Request}
use Rattle.command_line.specs.Line.{request_of}
use Rattle.driver.specs.declared.refusal.Refusal.{Refusal}
use Rattle.driver.specs.declared.refusal.Refusal.TheVariants as refusals
use Rattle.driver.specs.Serve.{Concludes, InputSays, IsInput, IsInputOf, IsTextCause, JobSays, ReadSays, RefusalSays, RequestSays, Says}

of_reader : (job : Job) (q : Request) (left : Option (List ℕ)) (bytes : List ℕ) → job ≢ Bench → IsInput left bytes → IsInputOf job q left bytes
of_reader Bench q left bytes n h = absurd (n refl)
of_reader _ q left bytes n h = h

-- the text that is made
pub input_made : {V : Type 0} (view : V → List ℕ) (q : Request) (r : Result V Refusal) (left : Option (List ℕ)) (before now : ℕ) → q.job ≡ Bench → IfOk r (λ v. view v ≡ text_of q.size) → IfErr r (λ x. x ≡ refusals.Memory) → InputSays view r q left before now
input_made view q (Ok v) left before now bench is memory = subst (λ j. IsInputOf j q left (view v)) (sym bench) is
input_made {V = V} view q (Err x) left before now bench is memory = subst (λ y. InputSays {V = V} view (Err y) q left before now) (sym memory) tt

-- the input that is read
pub input_read : {V : Type 0} (view : V → List ℕ) (q : Request) (r : Result V Refusal) (left : Option (List ℕ)) (before now : ℕ) → q.job ≢ Bench → ReadSays view r left before now → InputSays view r q left before now
input_read view q (Ok v) left before now n h = of_reader q.job q left (view v) n h
input_read view q (Err refusals.Memory) left before now n h = tt
input_read view q (Err refusals.ReadFault) left before now n h = (n, h)
input_read view q (Err refusals.InputBytes) left before now n h = (n, h)
input_read view q _ left before now n h = absurd h

-- no text shows a refusal of the words, of reading or of writing

no_usage : (job : Job) (q : Request) (bytes : List ℕ) → IsTextCause job q refusals.Usage bytes → ⊥
no_usage Exec q bytes h = h
no_usage _ q bytes h = h

no_read_fault : (job : Job) (q : Request) (bytes : List ℕ) → IsTextCause job q refusals.ReadFault bytes → ⊥
no_read_fault Exec q bytes h = h
no_read_fault _ q bytes h = h

no_write_fault : (job : Job) (q : Request) (bytes : List ℕ) → IsTextCause job q refusals.WriteFault bytes → ⊥
no_write_fault Exec q bytes h = h
no_write_fault _ q bytes h = h

no_length : (job : Job) (q : Request) (bytes : List ℕ) → IsTextCause job q refusals.InputBytes bytes → ⊥
no_length Exec q bytes h = h
no_length _ q bytes h = h

module _ {V : Type 0} (view : V → List ℕ) (words : List (List ℕ)) (left : Option (List ℕ)) (before now : ℕ) where
  -- a refusal of the words
  pub request_says : (r : Refusal) → RequestSays r words → Says {V = V} view (Err r) words left before now
  request_says refusals.Memory h = tt
  request_says refusals.Usage h = h
  request_says _ h = absurd h

  module _ (q : Request) (asked : request_of words ≡ Some q) where
    -- a refusal of reading
    pub input_says : (r : Refusal) → InputSays {V = V} view (Err r) q left before now → Says {V = V} view (Err r) words left before now
    input_says refusals.Memory h = tt
    input_says refusals.ReadFault h = ((q, asked, h.0), h.1)
    input_says refusals.InputBytes h = ((q, asked, h.0), h.1)
    input_says _ h = absurd h

    module _ (bytes : List ℕ) (input : IsInputOf q.job q left bytes) where
      refused : (r : Refusal) → RefusalSays q.job q r bytes → Says {V = V} view (Err r) words left before now
      refused refusals.Memory h = tt
      refused refusals.Usage h = absurd (no_usage q.job q bytes h)
      refused refusals.ReadFault h = absurd (no_read_fault q.job q bytes h)
      refused refusals.WriteFault h = absurd (no_write_fault q.job q bytes h)
      refused refusals.InputBytes h = absurd (no_length q.job q bytes h)
      refused _ h = (q, asked, (bytes, input, h))

      -- the job's answer on the bytes, or its refusal
      pub answer_says : (r : Result V Refusal) → JobSays q.job q view r bytes → Says view r words left before now
      answer_says (Ok v) h = record { request = q; asked = asked; bytes = bytes; input = input; answer = h }
      answer_says (Err r) h = refused r h

      -- and the facts that reports are told
      pub job_told : {X : Type 0} (shown : X → Shown) (r : Result V Refusal) (old new : List X) → OnOk r (JobIsTold shown q.job q bytes old new) → OnOk r (CallIsTold shown words left old new)
      job_told shown r old new h = on_ok_weaker r (λ t. (t.0, record { request = q; asked = asked; bytes = bytes; input = input; are = t.1 }, t.2)) h

-- an answer that is written, with the lines of the reports
pub concluded : {V K E : Type 0} (view : V → List ℕ) (a : Result V Refusal) (v : V) → a ≡ Ok v → (lines : List ℕ) (out out' : K) (taken taken' : Option (List ℕ)) (faults faults' : ℕ)
    (err err' : E) (line line' : Option (List ℕ)) (errs errs' : ℕ) → Appends taken taken' (view v) → TakesLine line line' errs errs' lines → (lines ≡ [] → err' ≡ err) →
    Concludes view a lines 0 out out' taken taken' faults faults' err err' line line' errs errs'
concluded view a v is lines out out' taken taken' faults faults' err err' line line' errs errs' h t none =
    subst (λ x. Concludes view x lines 0 out out' taken taken' faults faults' err err' line line' errs errs') (sym is) (record { whole = λ z. (h, t, none); part = λ n. absurd (n refl) })
