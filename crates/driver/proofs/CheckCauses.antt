-- The statuses of the check's refusals.
use Rattle.std.proofs.Common.{◌≡◌, ℕ, Bool, true, false, IsTrue, sym, ap, ◌∙◌, arith}
use Rattle.dump_reader.specs.declared.environment.RawEnv.{RawEnv}
use Rattle.driver.specs.declared.refusal.Refusal.{Refusal}
use Rattle.driver.specs.declared.refusal.Refusal.TheVariants as refusals
use Rattle.driver.specs.declared.refusal.RunEnd.TheVariants as runs
use Rattle.driver.specs.declared.refusal.ModuleFault.TheVariants as modules
use Rattle.driver.specs.declared.refusal.ArgumentFault.TheVariants as arguments
use Rattle.driver.specs.declared.refusal.CertificateFault.TheVariants as certificates
use Rattle.driver.specs.Lines.{status_of}
use Rattle.driver.specs.Judged.{IsAcceptedBy, EndsWith, status_by}
use Rattle.driver.specs.Serve.{IsCheckCause, IsSure}
use Rattle.driver.proofs.Judging.{judged_alike}

pub deep_or_not : (b : Bool) → IsTrue b → b ≡ false → ⊥
deep_or_not true h e = absurd cc
deep_or_not false h e = absurd cc

-- the status of the check's refusals is that of its end by the rules

pub cause_status : (turns : ℕ) → (r : Refusal) (e : RawEnv) (status : ℕ) → IsCheckCause turns r e → (IsSure r → ⊥) → EndsWith turns e status → status ≡ status_of r
cause_status turns refusals.Depth e status c n h =
    let same = judged_alike turns e h.rules c.rules h.judged c.judged in
    absurd (deep_or_not c.rules.deep c.deep (sym same.deep ∙ h.within))
cause_status turns refusals.TurnsSpent e status c n h =
    let same = judged_alike turns e h.rules c.rules h.judged c.judged in
    h.status_is ∙ same.status ∙ ap status_by c.spends
cause_status turns (refusals.Broken k p) e status c n h =
    let same = judged_alike turns e h.rules c.rules h.judged c.judged in
    h.status_is ∙ same.status ∙ ap status_by c.breaks
cause_status turns _ e status c n h = absurd c

pub not_zero : (r : Refusal) → status_of r ≡ 0 → ⊥
not_zero (refusals.Run runs.Exhausted) e = omega (arith, e)
not_zero (refusals.Module modules.Pages) e = omega (arith, e)
not_zero (refusals.Argument arguments.Nesting) e = omega (arith, e)
not_zero (refusals.Certificate certificates.Number) e = omega (arith, e)
not_zero _ e = omega (arith, e)

-- an environment that the rules accept ends with 0 alone
pub accepted_status : (turns : ℕ) → (e : RawEnv) (status : ℕ) → IsAcceptedBy turns e → EndsWith turns e status → status ≡ 0
accepted_status turns e status a h = h.status_is ∙ (judged_alike turns e h.rules a.rules h.judged a.judged).status ∙ ap status_by a.accepts
