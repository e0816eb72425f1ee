-- The end of the input, from what reading and the job say.
use Rattle.std.proofs.Common.{◌≡◌, ◌≢◌, ℕ, List, Option, Some, None, Result, Ok, Err, sym, subst, ◌∙◌, arith}
use Rattle.kio.specs.Histories.{MetEnd, given_since}
use Rattle.command_line.specs.declared.job.Job.TheVariants.{Bench}
use Rattle.command_line.specs.declared.line.Request.{Request}
use Rattle.command_line.specs.Line.{request_of}
use Rattle.driver.specs.declared.refusal.Refusal.{Refusal}
use Rattle.driver.specs.declared.refusal.Refusal.TheVariants as refusals
use Rattle.driver.specs.Lines.{status_of}
use Rattle.driver.specs.Serve.{Concludes, InputSays, IsForReader, RequestSays, Says}
use Rattle.driver.specs.ByHistory.{EndSays, ReadsToEnd}

-- the job that the words ask for reads an input, where one that they ask for does
pub reads_input : (words : List (List ℕ)) (q : Request) → request_of words ≡ Some q → IsForReader words → q.job ≢ Bench
reads_input words q asked (other, e, n) = let both : Some other ≡ Some q = sym e ∙ asked in let one : other ≡ q = cc in subst (λ o. o.job ≢ Bench) one n

-- no words ask for a job and for none
asks : (words : List (List ℕ)) → IsForReader words → request_of words ≡ None → ⊥
asks words (q, e, n) f = let both : Some q ≡ None = sym e ∙ f in absurd cc

module _ (V : Type 0) (words : List (List ℕ)) (old new : List (List ℕ)) where
  -- what comes after the reads
  met : (r : Refusal) → (IsForReader words → MetEnd old new) → EndSays {V = V} (Err r) words old new
  met refusals.Memory h = tt
  met refusals.Usage h = tt
  met refusals.ReadFault h = tt
  met refusals.InputBytes h = tt
  met _ h = h

  pub end_after : (a : Result V Refusal) → (IsForReader words → MetEnd old new) → EndSays a words old new
  end_after (Ok v) h = h
  end_after (Err r) h = met r h

  -- a refusal of the words
  pub end_of_words : (r : Refusal) → RequestSays r words → EndSays {V = V} (Err r) words old new
  end_of_words refusals.Memory h = tt
  end_of_words refusals.Usage h = tt
  end_of_words _ h = absurd h

  -- a refusal of reading
  pub end_of_reads : (view : V → List ℕ) (q : Request) (left : Option (List ℕ)) (before now : ℕ) (r : Refusal) → InputSays {V = V} view (Err r) q left before now → EndSays {V = V} (Err r) words old new
  end_of_reads view q left before now refusals.Memory h = tt
  end_of_reads view q left before now refusals.ReadFault h = tt
  end_of_reads view q left before now refusals.InputBytes h = tt
  end_of_reads view q left before now _ h = absurd h

  module _ (view : V → List ℕ) (before now status : ℕ) where
    refused_end : (r : Refusal) → Says {V = V} view (Err r) words (Some (given_since old new)) before now → EndSays {V = V} (Err r) words old new → status ≡ status_of r → ReadsToEnd status words old new
    refused_end refusals.Memory s h e reader one three few = absurd (one e)
    refused_end refusals.Usage s h e reader one three few = absurd (asks words reader s)
    refused_end refusals.ReadFault s h e reader one three few = absurd (three e)
    refused_end refusals.InputBytes s h e reader one three few = let long = s.1 in absurd (omega (arith, long, few))
    refused_end _ s h e reader one three few = h reader

    -- on the call's status
    pub to_end : {K E : Type 0} (lines : List ℕ) (out out' : K) (taken taken' : Option (List ℕ)) (faults faults' : ℕ) (err err' : E) (line line' : Option (List ℕ)) (errs errs' : ℕ) (a : Result V Refusal) →
        Says view a words (Some (given_since old new)) before now → EndSays a words old new →
        Concludes view a lines status out out' taken taken' faults faults' err err' line line' errs errs' → ReadsToEnd status words old new
    to_end lines out out' taken taken' faults faults' err err' line line' errs errs' (Ok v) s h c reader one three few = h reader
    to_end lines out out' taken taken' faults faults' err err' line line' errs errs' (Err r) s h c reader one three few = refused_end r s h c.0 reader one three few
