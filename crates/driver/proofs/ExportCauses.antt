-- How `export` ends after the check is determined, but for want of memory and limits of depth; so the statuses of its refusals are.
use Rattle.std.proofs.Common.{◌≡◌, ◌≢◌, ℕ, ◌⊎◌, inl, inr, refl, sym, subst, ◌∙◌}
use Rattle.module_run.specs.Ends.{IsSmall}
use Rattle.dump_reader.specs.declared.environment.RawEnv.{RawEnv}
use Rattle.driver.specs.declared.refusal.Refusal.{Refusal}
use Rattle.driver.specs.declared.refusal.Refusal.TheVariants as refusals
use Rattle.driver.specs.declared.refusal.ProgramLimit.TheVariants as limits
use Rattle.wasm_core.specs.Parts.{Parts}
use Rattle.driver.specs.Lines.{status_of}
use Rattle.driver.specs.Judged.{EndsWith}
use Rattle.driver.specs.Serve.{IsCheckCause, IsSure}
use Rattle.driver.specs.ExecEnds.{Accepting}
use Rattle.driver.specs.MadeModule.{BytesRefuse}
use Rattle.driver.specs.CallStages.{CallCompiling, its_call_module}
use Rattle.driver.specs.Exported.{CallRulesAreWithin, ExportsNone, by_signature, by_erasure, by_passes, by_bytes, IsExportCause, ExportEndsWith}
use Rattle.driver.proofs.CheckCauses.{cause_status, not_zero, accepted_status}
use Rattle.driver.proofs.SourceCauses.{accepted_by}
use Rattle.driver.proofs.ExecCauses.{not_passed}
use Rattle.driver.proofs.MadeCauses.{is_written}
use Rattle.driver.proofs.CallCauses.{signature_stops, call_erasure_stops, no_signature, no_call_erasure, no_call_passes, one_call_module}

-- a module that isn't written passes the limit on its bytes
unwritten_status : (m : Parts) (r : Refusal) → BytesRefuse m r → r ≢ refusals.Memory → status_of r ≡ 7
unwritten_status m refusals.Memory h n = absurd (n refl)
unwritten_status m (refusals.Program limits.ModuleBytes) h n = refl
unwritten_status m _ h n = absurd h

module _ (turns : ℕ) (e : RawEnv) (pages : ℕ) where
  abbrev Stops : Refusal → Type 0
  Stops r = ExportsNone turns e pages r

  pub export_accepts : (r : Refusal) → Stops r → Accepting turns e
  export_accepts r (by_signature x w h) = x
  export_accepts r (by_erasure x w h) = x.before
  export_accepts r (by_passes x h) = x.before.before
  export_accepts r (by_bytes x valid h) = x.before.before.before

  module _ (within : CallRulesAreWithin turns e) where
    -- where main has a module for calls within 16 MiB no stage refuses
    pub no_export_stop : (x : CallCompiling turns e) → IsSmall (its_call_module pages x) → (r : Refusal) → Stops r → r ≢ refusals.Memory → ⊥
    no_export_stop x small r (by_signature y w h) n = no_signature turns e within r y w h n x.before.before
    no_export_stop x small r (by_erasure y w h) n = no_call_erasure turns e within r y w h n x.before
    no_export_stop x small r (by_passes y h) n = no_call_passes turns e pages r y h n x
    no_export_stop x small r (by_bytes y valid h) n = is_written (its_call_module pages y) r h n (subst IsSmall (one_call_module turns e pages x y) small)

    bytes_stop : (r q : Refusal) (x y : CallCompiling turns e) → BytesRefuse (its_call_module pages x) r → BytesRefuse (its_call_module pages y) q → r ≢ refusals.Memory → q ≢ refusals.Memory → status_of r ≡ status_of q
    bytes_stop r q x y h k n m = unwritten_status (its_call_module pages x) r h n ∙ sym (unwritten_status (its_call_module pages y) q k m)

    -- two refusals have one status
    export_alike : (r q : Refusal) → Stops r → Stops q → r ≢ refusals.Memory → q ≢ refusals.Memory → status_of r ≡ status_of q
    export_alike r q (by_signature x w h) (by_signature y v k) n m = signature_stops turns e within r x w h n y ∙ sym (signature_stops turns e within q y v k m y)
    export_alike r q (by_signature x w h) (by_erasure y v k) n m = absurd (no_signature turns e within r x w h n y)
    export_alike r q (by_signature x w h) (by_passes y k) n m = absurd (no_signature turns e within r x w h n y.before)
    export_alike r q (by_signature x w h) (by_bytes y b k) n m = absurd (no_signature turns e within r x w h n y.before.before)
    export_alike r q (by_erasure x w h) (by_signature y v k) n m = absurd (no_signature turns e within q y v k m x)
    export_alike r q (by_erasure x w h) (by_erasure y v k) n m = call_erasure_stops turns e within r x w h n y ∙ sym (call_erasure_stops turns e within q y v k m y)
    export_alike r q (by_erasure x w h) (by_passes y k) n m = absurd (no_call_erasure turns e within r x w h n y)
    export_alike r q (by_erasure x w h) (by_bytes y b k) n m = absurd (no_call_erasure turns e within r x w h n y.before)
    export_alike r q (by_passes x h) (by_signature y v k) n m = absurd (no_signature turns e within q y v k m x.before)
    export_alike r q (by_passes x h) (by_erasure y v k) n m = absurd (no_call_erasure turns e within q y v k m x)
    export_alike r q (by_passes x h) (by_passes y k) n m = (not_passed pages x.program r h n).0 ∙ sym (not_passed pages y.program q k m).0
    export_alike r q (by_passes x h) (by_bytes y b k) n m = absurd (no_call_passes turns e pages r x h n y)
    export_alike r q (by_bytes x a h) (by_signature y v k) n m = absurd (no_signature turns e within q y v k m x.before.before)
    export_alike r q (by_bytes x a h) (by_erasure y v k) n m = absurd (no_call_erasure turns e within q y v k m x.before)
    export_alike r q (by_bytes x a h) (by_passes y k) n m = absurd (no_call_passes turns e pages q y k m x)
    export_alike r q (by_bytes x a h) (by_bytes y b k) n m = bytes_stop r q x y h k n m

  accepted_end : (status : ℕ) → Accepting turns e → EndsWith turns e status → status ≡ 0
  accepted_end status x h = accepted_status turns e status (accepted_by turns e x.kept x.type x.left x.accepted) h

  pub export_status : (r : Refusal) (status : ℕ) → IsCheckCause turns r e ⊎ IsExportCause turns pages r e → (IsSure r → ⊥) → ExportEndsWith turns e pages status → status ≡ status_of r
  export_status r status (inl c) n (inl h) = cause_status turns r e status c n h.0
  export_status r status (inl c) n (inr (inl h)) = absurd (not_zero r (sym (cause_status turns r e 0 c n h.0.check)))
  export_status r status (inl c) n (inr (inr h)) = absurd (not_zero r (sym (cause_status turns r e 0 c n h.check)))
  export_status r status (inr c) n (inl h) = absurd (h.1 (accepted_end status (export_accepts r c.1) h.0))
  export_status r status (inr c) n (inr (inl h)) = absurd (no_export_stop h.0.within h.0.stages h.0.small r c.1 c.0)
  export_status r status (inr c) n (inr (inr h)) = h.status_is ∙ export_alike h.within h.refusal r h.cause.1 c.1 h.cause.0 c.0

  pub exported_status : (status : ℕ) (x : CallCompiling turns e) → IsSmall (its_call_module pages x) → ExportEndsWith turns e pages status → status ≡ 0
  exported_status status x small (inl h) = absurd (h.1 (accepted_end status x.before.before.before h.0))
  exported_status status x small (inr (inl h)) = h.1
  exported_status status x small (inr (inr h)) = absurd (no_export_stop h.within x small h.refusal h.cause.1 h.cause.0)
