-- The job `explain` has no refusal of the check, since no environment shows it one.
use Rattle.std.proofs.Common.{◌≡◌, ◌≢◌, ℕ, List, Option, Some, sym, subst, ◌∙◌, arith}
use Rattle.command_line.specs.declared.job.Job.TheVariants.{Explain}
use Rattle.command_line.specs.declared.line.Request.{Request}
use Rattle.command_line.specs.Line.{request_of}
use Rattle.driver.specs.declared.refusal.Refusal.{Refusal}
use Rattle.driver.specs.declared.refusal.Refusal.TheVariants as refusals
use Rattle.driver.specs.declared.refusal.RunEnd.TheVariants as runs
use Rattle.driver.specs.declared.refusal.ModuleFault.TheVariants as modules
use Rattle.driver.specs.declared.refusal.ArgumentFault.TheVariants as arguments
use Rattle.driver.specs.declared.refusal.CertificateFault.TheVariants as certificates
use Rattle.driver.specs.BesideCheck.{IsBesideCheck}
use Rattle.driver.specs.Lines.{status_of}
use Rattle.driver.specs.Serve.{IsCause, IsOfText, IsRefused, IsTextCause}

-- the statuses of refusals beside the check

not_eight : (r : Refusal) → IsBesideCheck r → status_of r ≡ 8 → ⊥
not_eight refusals.TurnsSpent h e = h
not_eight (refusals.Run runs.Exhausted) h e = omega (arith, e)
not_eight (refusals.Module modules.Pages) h e = omega (arith, e)
not_eight (refusals.Argument arguments.Nesting) h e = omega (arith, e)
not_eight (refusals.Certificate certificates.Number) h e = omega (arith, e)
not_eight _ h e = omega (arith, e)

not_nine : (r : Refusal) → IsBesideCheck r → status_of r ≡ 9 → ⊥
not_nine (refusals.Broken n p) h e = h
not_nine (refusals.Run runs.Exhausted) h e = omega (arith, e)
not_nine (refusals.Module modules.Pages) h e = omega (arith, e)
not_nine (refusals.Argument arguments.Nesting) h e = omega (arith, e)
not_nine (refusals.Certificate certificates.Number) h e = omega (arith, e)
not_nine _ h e = omega (arith, e)

module _ (words : List (List ℕ)) (q : Request) (asked : request_of words ≡ Some q) (explain : q.job ≡ Explain) where
  same_request : (p : Request) → request_of words ≡ Some p → p.job ≡ Explain
  same_request p e = let one : Some q ≡ Some p = sym asked ∙ e in let same : q ≡ p = cc in subst (λ x. x.job ≡ Explain) same explain

  -- a cause of the text is one by `explain`
  explained_cause : (r : Refusal) (left : Option (List ℕ)) → IsOfText r words left → (p : Request) × ((bytes : List ℕ) × IsTextCause Explain p r bytes)
  explained_cause r left (p, e, (bytes, input, cause)) = (p, (bytes, subst (λ j. IsTextCause j p r bytes) (same_request p e) cause))

  beside_check : (r : Refusal) (left : Option (List ℕ)) (before now faults faults' : ℕ) → IsCause r words left before now faults faults' → IsBesideCheck r
  beside_check refusals.TurnsSpent left before now faults faults' h = let (p, (bytes, cause)) = explained_cause refusals.TurnsSpent left h in cause.2
  beside_check refusals.Depth left before now faults faults' h = let (p, (bytes, cause)) = explained_cause refusals.Depth left h in cause.2
  beside_check (refusals.Broken n p) left before now faults faults' h = let (o, (bytes, cause)) = explained_cause (refusals.Broken n p) left h in cause.2
  beside_check _ left before now faults faults' h = tt

  module _ (status : ℕ) (left : Option (List ℕ)) (before now faults faults' : ℕ) (line line' : Option (List ℕ)) (errs errs' : ℕ) (x : IsRefused status words left before now faults faults' line line' errs errs') where
    pub explain_beside_check : IsBesideCheck x.refusal
    explain_beside_check = beside_check x.refusal left before now faults faults' x.cause

    pub explain_not_eight : status ≢ 8
    explain_not_eight z = not_eight x.refusal explain_beside_check (sym x.status_is ∙ z)

    pub explain_not_nine : status ≢ 9
    explain_not_nine z = not_nine x.refusal explain_beside_check (sym x.status_is ∙ z)
