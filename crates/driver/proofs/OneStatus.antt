-- The status of a call, from the answer or the refusal of another on the same words and input.
use Rattle.std.proofs.Common.{◌≡◌, ◌≢◌, ℕ, List, Option, Some, None, ◌⊎◌, inl, inr, refl, sym, subst, ◌∙◌, arith}
use Rattle.command_line.specs.declared.job.Job.TheVariants.{Bench}
use Rattle.command_line.specs.declared.line.Request.{Request}
use Rattle.driver.specs.declared.refusal.Refusal.{Refusal}
use Rattle.driver.specs.declared.refusal.Refusal.TheVariants as refusals
use Rattle.driver.specs.Lines.{status_of}
use Rattle.driver.specs.Promises.{EndsAsJudged, EndsAsText}
use Rattle.driver.specs.Serve.{HasAnswer, IsAnswerOf, IsAsked, IsAskedWithin, IsCause, IsForReader, IsInputOf, IsOfText, IsRefused, IsTextCause, MeetsNoFault}
use Rattle.driver.specs.Shallow.{IsShallowOn}
use Rattle.driver.proofs.CheckCauses.{not_zero}
use Rattle.driver.proofs.Serving.{long-is, input-of, of-source, one_request}
use Rattle.driver.proofs.Shallow.{answer_judged, cause_judged}

module _ {words : List (List ℕ)} (q : Request) (bytes : List ℕ) (left : Option (List ℕ)) (asked : IsAsked q words left bytes) where
  -- the answer is that of the bytes told
  pub answer_on : (text : List ℕ) → HasAnswer words left text → IsAnswerOf q.job q bytes text
  answer_on text h =
      let one : h.request ≡ q = one_request words h.request q h.asked asked.words_are in
      let same = (input-of q.job q left h.bytes bytes (subst (λ o. IsInputOf o.job o left h.bytes) one h.input) asked.bytes_are).0 in
      subst (λ b. IsAnswerOf q.job q b text) same (subst (λ o. IsAnswerOf o.job o h.bytes text) one h.answer)

  -- so is the cause
  cause_on : (r : Refusal) → IsOfText r words left → IsTextCause q.job q r bytes
  cause_on r (other, e, (found, input, cause)) =
      let one : other ≡ q = one_request words other q e asked.words_are in
      let same = (input-of q.job q left found bytes (subst (λ o. IsInputOf o.job o left found) one input) asked.bytes_are).0 in
      subst (λ b. IsTextCause q.job q r b) same (subst (λ o. IsTextCause o.job o r found) one cause)

  reads : IsForReader words → q.job ≢ Bench
  reads (other, e, n) = subst (λ o. o.job ≢ Bench) (one_request words other q e asked.words_are) n

-- the other call: its status, and what it promises where the rules or the text show one
module _ {words : List (List ℕ)} (q : Request) (bytes : List ℕ) (shallow : IsShallowOn q.job q.turns bytes) (left : Option (List ℕ)) (at : IsAskedWithin q words left bytes)
    (status : ℕ) (left' : Option (List ℕ)) (before now faults faults' : ℕ) (at' : IsAskedWithin q words left' bytes) (calm : MeetsNoFault q.job before now faults faults')
    (judged : EndsAsJudged status words left' before now faults faults') (refuses : EndsAsText status words left' before now) where
  pub as_answered : (text : List ℕ) → HasAnswer words left text → (status ≡ 0) ⊎ (status ≡ 1)
  as_answered text h = judged q bytes 0 at' calm.0 (answer_judged q.job q bytes text shallow (answer_on q bytes left at.0 text h)) (λ z. calm.1)

  as_text : (r : Refusal) → IsTextCause q.job q r bytes → (status ≡ status_of r) ⊎ (status ≡ 1)
  as_text r cause =
      elim (cause_judged q.job q bytes r shallow cause) [
        | inl sure ↦ refuses q bytes r at' calm.0 cause sure
        | inr ends ↦ judged q bytes (status_of r) at' calm.0 ends (λ z. absurd (not_zero r z))
      ]

  as_caused : (b n f g : ℕ) → MeetsNoFault q.job b n f g → (r : Refusal) → IsCause r words left b n f g → (status ≡ status_of r) ⊎ ((status_of r ≡ 1) ⊎ (status ≡ 1))
  as_caused b n f g quiet refusals.Memory c = inr (inl refl)
  as_caused b n f g quiet refusals.Usage c = absurd (let none : Some q ≡ None = sym at.0.words_are ∙ c in cc)
  as_caused b n f g quiet refusals.ReadFault c = absurd (quiet.0 (reads q bytes left at.0 c.0) c.1)
  as_caused b n f g quiet refusals.WriteFault c = absurd (quiet.1 c.1)
  as_caused b n f g quiet refusals.InputBytes c =
      let long = long-is left bytes c.1 (of-source q.job q left bytes (reads q bytes left at.0 c.0) at.0.bytes_are) in
      let short = at.1 in
      absurd (omega (arith, long, short))
  as_caused b n f g quiet r c = elim (as_text r (cause_on q bytes left at.0 r c)) [ inl e ↦ inl e | inr e ↦ inr (inr e) ]

  pub as_refused : (other b n f g : ℕ) (line line' : Option (List ℕ)) (errs errs' : ℕ) → MeetsNoFault q.job b n f g → IsRefused other words left b n f g line line' errs errs' → (other ≡ status) ⊎ ((other ≡ 1) ⊎ (status ≡ 1))
  as_refused other b n f g line line' errs errs' quiet x =
      elim (as_caused b n f g quiet x.refusal x.cause) [
        | inl e ↦ inl (x.status_is ∙ sym e)
        | inr (inl e) ↦ inr (inl (x.status_is ∙ e))
        | inr (inr e) ↦ inr (inr e)
      ]
