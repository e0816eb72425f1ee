-- How `compile` ends after the check is determined, but for want of memory and limits of depth; so the statuses of its refusals are.
use Rattle.std.proofs.Common.{◌≡◌, ◌≢◌, ℕ, arith, Err, ◌⊎◌, inl, inr, refl, sym, subst}
use Rattle.wasm_core.specs.Parts.{Parts}
use Rattle.module_run.specs.Ends.{IsSmall}
use Rattle.dump_reader.specs.declared.environment.RawEnv.{RawEnv}
use Rattle.driver.specs.declared.refusal.Refusal.{Refusal}
use Rattle.driver.specs.declared.refusal.Refusal.TheVariants as refusals
use Rattle.driver.specs.declared.refusal.ProgramLimit.TheVariants as limits
use Rattle.driver.specs.Lines.{status_of}
use Rattle.driver.specs.Serve.{IsCheckCause, IsSure}
use Rattle.driver.specs.ExecEnds.{Compiling, IsCompilable, ExecRunSays, StageRefuses, in_search, in_erasure, in_passes, in_run, IsExecCause, its_module}
use Rattle.driver.specs.MadeModule.{BytesRefuse, MakesNone, by_search, by_erasure, by_passes, by_bytes, IsMakeCause, MakeEndsWith}
use Rattle.driver.proofs.CheckCauses.{cause_status, not_zero, accepted_status}
use Rattle.driver.proofs.SourceCauses.{accepted_by}
use Rattle.driver.proofs.ExecCauses.{exec_status, no_search, no_erasure, no_passes, one_module}

-- a module that isn't written, as one that isn't run
bytes_run : (m : Parts) (pages steps : ℕ) (r : Refusal) → BytesRefuse m r → ExecRunSays m pages steps (Err r)
bytes_run m pages steps refusals.Memory h = tt
bytes_run m pages steps (refusals.Program limits.ModuleBytes) h = h
bytes_run m pages steps _ h = absurd h

-- so a refusal of `compile` is one of `exec`, in however many steps
pub as_exec : (turns : ℕ) (e : RawEnv) (pages steps : ℕ) (r : Refusal) → MakesNone turns e pages r → StageRefuses turns e pages steps r
as_exec turns e pages steps r (by_search x w h) = in_search x w h
as_exec turns e pages steps r (by_erasure x w h) = in_erasure x w h
as_exec turns e pages steps r (by_passes x h) = in_passes x h
as_exec turns e pages steps r (by_bytes x valid h) = in_run x valid (bytes_run (its_module pages x) pages steps r h)

pub make_cause : (turns pages steps : ℕ) (r : Refusal) (e : RawEnv) → IsCheckCause turns r e ⊎ IsMakeCause turns pages r e → IsCheckCause turns r e ⊎ IsExecCause turns pages steps r e
make_cause turns pages steps r e (inl c) = inl c
make_cause turns pages steps r e (inr c) = inr (c.0, as_exec turns e pages steps r c.1)

-- a module within 16 MiB is written
pub is_written : (m : Parts) (r : Refusal) → BytesRefuse m r → r ≢ refusals.Memory → IsSmall m → ⊥
is_written m refusals.Memory h n small = n refl
is_written m (refusals.Program limits.ModuleBytes) h n small = omega (arith, h, small)
is_written m _ h n small = h

-- where main has a module within 16 MiB no stage refuses
pub no_stop : (turns : ℕ) (e : RawEnv) (pages : ℕ) → IsCompilable turns e pages → (r : Refusal) → MakesNone turns e pages r → r ≢ refusals.Memory → ⊥
no_stop turns e pages c r (by_search x w h) n = no_search turns e pages 0 c.search_within c.erasure_within r x w h n c.stages.before.before
no_stop turns e pages c r (by_erasure x w h) n = no_erasure turns e pages 0 c.search_within c.erasure_within r x w h n c.stages.before
no_stop turns e pages c r (by_passes x h) n = no_passes turns e pages 0 c.search_within c.erasure_within r x h n c.stages
no_stop turns e pages c r (by_bytes x valid h) n =
    is_written (its_module pages x) r h n (subst IsSmall (one_module turns e pages c.stages x) c.small)

pub make_status : (turns : ℕ) (r : Refusal) (e : RawEnv) (pages status : ℕ) → IsCheckCause turns r e ⊎ IsMakeCause turns pages r e → (IsSure r → ⊥) → MakeEndsWith turns e pages status → status ≡ status_of r
make_status turns r e pages status (inl c) n (inl h) = cause_status turns r e status c n h.0
make_status turns r e pages status (inl c) n (inr (inl h)) = absurd (not_zero r (sym (cause_status turns r e 0 c n h.0.check)))
make_status turns r e pages status (inl c) n (inr (inr h)) = absurd (not_zero r (sym (cause_status turns r e 0 c n h.check)))
make_status turns r e pages status (inr c) n (inl h) = exec_status turns r e pages 0 status (make_cause turns pages 0 r e (inr c)) n (inl h)
make_status turns r e pages status (inr c) n (inr (inl h)) = absurd (no_stop turns e pages h.0 r c.1 c.0)
make_status turns r e pages status (inr c) n (inr (inr h)) = exec_status turns r e pages 0 status (make_cause turns pages 0 r e (inr c)) n (inr (record {
  check = h.check;
  end = Err h.refusal;
  ends = (h.cause.0, as_exec turns e pages 0 h.refusal h.cause.1);
  search_within = h.search_within;
  erasure_within = h.erasure_within;
  status_is = h.status_is;
}))

pub made_status : (turns : ℕ) (e : RawEnv) (pages status : ℕ) (x : Compiling turns e) → IsSmall (its_module pages x) → MakeEndsWith turns e pages status → status ≡ 0
made_status turns e pages status x small (inl h) = (let a = x.before.before.before in absurd (h.1 (accepted_status turns e status (accepted_by turns e a.kept a.type a.left a.accepted) h.0)))
made_status turns e pages status x small (inr (inl h)) = h.1
made_status turns e pages status x small (inr (inr h)) =
    absurd (no_stop turns e pages (record { check = h.check; stages = x; small = small; search_within = h.search_within; erasure_within = h.erasure_within }) h.refusal h.cause.1 h.cause.0)
