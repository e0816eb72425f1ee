-- The answers of a job, from what its stages say.
use Rattle.std.proofs.Common.{◌≡◌, ℕ, List, Result, Ok, Err, ◌⊎◌, inl, inr, refl, sym, subst}
use Rattle.std.specs.Prelude.{IfOk, IfErr, IsErrAnd}
use Rattle.dump_reader.specs.declared.environment.RawEnv.{RawEnv}
use Rattle.command_line.specs.declared.job.Job.{Job}
use Rattle.command_line.specs.declared.job.Job.TheVariants.{Cert, Check, Run, Explain, Call, Verify}
use Rattle.command_line.specs.declared.line.Request.{Request}
use Rattle.driver.specs.declared.refusal.Refusal.{Refusal}
use Rattle.driver.specs.declared.refusal.Refusal.TheVariants as refusals
use Rattle.driver.specs.Texts.{SpellsWithin}
use Rattle.driver.specs.Serve.{IsAnswerOf, IsDumpCause, IsTextCause, CheckSays, IsCheckCause, IsJobCause, JobSays, RefusalSays}

-- a text that is made of the answer, or want of memory
pub says : {V : Type 0} (view : V → List ℕ) (job : Job) (q : Request) (r : Result V Refusal) (bytes wanted : List ℕ) → ((text : List ℕ) → text ≡ wanted → IsAnswerOf job q bytes text) →
    IfOk r (λ v. view v ≡ wanted) → IfErr r (λ e. e ≡ refusals.Memory) → JobSays job q view r bytes
says view job q (Ok v) bytes wanted answer text memory = answer (view v) text
says {V = V} view job q (Err e) bytes wanted answer text memory = subst (λ x. JobSays {V = V} job q view (Err x) bytes) (sym memory) tt

-- a job on a dump alone that refuses what its check refuses
abbrev pub IsDumpJob : Job → Type 0
IsDumpJob Run = ⊥
IsDumpJob Explain = ⊥
IsDumpJob Call = ⊥
IsDumpJob Verify = ⊥
IsDumpJob _ = Unit {0}

on_dump : (job : Job) (q : Request) (r : Refusal) (bytes : List ℕ) → IsDumpJob job → IsDumpCause job q r bytes → IsTextCause job q r bytes
on_dump Run q r bytes d h = absurd d
on_dump Call q r bytes d h = absurd d
on_dump Verify q r bytes d h = absurd d
on_dump _ q r bytes d h = h

-- a refusal of the check, as one of the text
of_check : (job : Job) (q : Request) (r : Refusal) (e : RawEnv) → IsDumpJob job → IsCheckCause q.turns r e → IsJobCause job q r e
of_check Check q r e d h = h
of_check Cert q r e d h = h
of_check Run q r e d h = absurd d
of_check Explain q r e d h = absurd d
of_check Call q r e d h = absurd d
of_check Verify q r e d h = absurd d
of_check _ q r e d h = inl h

pub checked_says : (job : Job) (q : Request) (r : Refusal) (bytes : List ℕ) (e : RawEnv) → SpellsWithin bytes e → IsDumpJob job → (r ≡ refusals.Memory) ⊎ IsCheckCause q.turns r e → RefusalSays job q r bytes
checked_says job q r bytes e s d (inl m) = subst (λ x. RefusalSays job q x bytes) (sym m) tt
checked_says job q refusals.Depth bytes e s d (inr h) = on_dump job q refusals.Depth bytes d (e, s, of_check job q refusals.Depth e d h)
checked_says job q refusals.TurnsSpent bytes e s d (inr h) = on_dump job q refusals.TurnsSpent bytes d (e, s, of_check job q refusals.TurnsSpent e d h)
checked_says job q (refusals.Broken n p) bytes e s d (inr h) = on_dump job q (refusals.Broken n p) bytes d (e, s, of_check job q (refusals.Broken n p) e d h)
checked_says job q _ bytes e s d (inr h) = absurd h

pub cause_of : (turns : ℕ) → (r : Refusal) (e : RawEnv) → CheckSays turns (Err r) e → (r ≡ refusals.Memory) ⊎ IsCheckCause turns r e
cause_of turns refusals.Memory e h = inl refl
cause_of turns _ e h = inr h

-- what holds of its refusal holds of the exit of a `?`
pub exit_at : {V : Type 0} (Q : Result V Refusal → Type 0) (r : Result V Refusal) (x : Refusal) → IsErrAnd r (λ y. y ≡ x) → Q (Err x) → Q r
exit_at Q (Ok v) x same h = absurd same
exit_at Q (Err y) x same h = subst (λ z. Q (Err z)) (sym same) h

pub exit_says : {V : Type 0} (view : V → List ℕ) (job : Job) (q : Request) (r : Result V Refusal) (x : Refusal) (bytes : List ℕ) → IsErrAnd r (λ y. y ≡ x) → RefusalSays job q x bytes → JobSays job q view r bytes
exit_says view job q r x bytes same h = exit_at (λ z. JobSays job q view z bytes) r x same h
