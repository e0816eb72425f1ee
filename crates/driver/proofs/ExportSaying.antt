-- What the stages to the module for calls of main say, as what the end of `export` shows; and the writing of the module.
use Rattle.std.proofs.Common.{◌≡◌, ◌≢◌, ◌≤◌, inr, ℕ, List, [], ◌∷◌, length, Result, Ok, Err, refl, ap, subst, ◌∙◌, arith}
use Rattle.pc_terms.specs.Syntax.{Term}
use Rattle.pc_rules.specs.declared.meter.Account.{Account}
use Rattle.calculus_rules.specs.Environment.{Env}
use Rattle.pc_rules.specs.DirectedRun.{Done}
use Rattle.pc_rules.specs.DirectedFirstOrder.{Found}
use Rattle.rule_laws.specs.Declarations.{IsCheckedEnvironment}
use Rattle.env_check.specs.Rules.{givens}
use Rattle.first_order.specs.declared.shapes.Signature.{Signature}
use Rattle.first_order.specs.Searching.{AreNamed}
use Rattle.first_order.specs.Signature.{IsSignature}
use Rattle.first_order.specs.DirectedSignature.{signature_search, signed_by, set_of, sets_of, AreAllNamed}
use Rattle.lambda_box.specs.BoxForm.{IsBoxProgram}
use Rattle.lambda_box.specs.BoxProgram.{BoxProgram}
use Rattle.erase_laws.specs.ErasedProgram.{HasErased, IsErased}
use Rattle.compile.specs.declared.fault.CompileFault.TheVariants as compiling
use Rattle.compile.proofs.Within.{fits_call_valid}
use Rattle.source_limits.proofs.Sizes.{refusals_show_sizes}
use Rattle.wasm_core.specs.ModuleTyping.{IsValid}
use Rattle.wasm_core.specs.Parts.{Parts}
use Rattle.known_calls.specs.KnownCalls.{module_of_call}
use Rattle.back_end.specs.BackEnd.{passed}
use Rattle.dump_reader.specs.declared.environment.RawEnv.{RawEnv}
use Rattle.command_line.specs.declared.job.Job.TheVariants.{Export}
use Rattle.command_line.specs.declared.line.Request.{Request}
use Rattle.command_line.specs.Line.{IsInRange}
use Rattle.driver.specs.declared.refusal.Refusal.{Refusal}
use Rattle.driver.specs.declared.refusal.Refusal.TheVariants as refusals
use Rattle.driver.specs.declared.refusal.ProgramLimit.{ProgramLimit}
use Rattle.driver.specs.declared.refusal.ProgramLimit.TheVariants as limits
use Rattle.driver.specs.Texts.{SpellsWithin}
use Rattle.driver.specs.SourceEnds.{IsAcceptedWith}
use Rattle.driver.specs.ExecEnds.{ErasureSays, ShowsLarge}
use Rattle.driver.specs.MadeModule.{BytesSay, BytesRefuse}
use Rattle.driver.specs.CallStages.{CallPassesSay, Signing, CallErasing, its_call_module}
use Rattle.driver.specs.Exported.{ExportsNone, by_signature, by_erasure, by_passes, by_bytes, IsLargeForCall}
use Rattle.driver.specs.ExportSays.{CallModuleSays, IsCallModule}
use Rattle.driver.specs.Serve.{JobSays, RefusalSays}
use Rattle.driver.proofs.CallCauses.{one_call_program}
use Rattle.driver.proofs.Sizes.{large_for_calls}
use Rattle.driver.proofs.MadeSaying.{accepting}

-- a list that isn't empty has an item
pub takes_some : {X : Type 0} (xs : List X) → xs ≢ [] → 1 ≤ length xs
takes_some [] h = absurd (h refl)
takes_some (x ∷ xs) h = omega arith

-- ---- what is known after each stage

module _ (q : Request) (e : RawEnv) (E : Env) (main T : Term) (u : Account) (accepted : IsAcceptedWith q.turns e E T u) (m : main ≡ e.main)
    (checked : IsCheckedEnvironment e.levels e.constraints (givens e) e.main E T) (s : Signature) where
  module _ (is : IsSignature E T (sets_of s.args) (set_of s.answer)) (takes : s.args ≢ []) (few : length s.args ≤ 255) (named : AreAllNamed E s.args × AreNamed E s.answer.types) (v : Account)
      (found : (signature_search E T u).end ≡ Done (Found (signed_by s)) v) where
    abbrev pub signing : Signing q.turns e
    signing = record { before = accepting q e E main T u accepted m checked; signature = s; is = is; takes = takes; few = few; named = named; left = v; found = found }

    abbrev pub call_erasing : (P : BoxProgram) → IsBoxProgram P → HasErased E P → IsErased E main P → (w : Account) → ErasureSays e E main v (Ok P) w → CallErasing q.turns e
    call_erasing P form sources erased w h = record {
      before = signing;
      program = P;
      form = form;
      sources = sources;
      is = subst (λ t. IsErased E t P) m erased;
      left = w;
      erased = subst (λ t. ErasureSays e E t v (Ok P) w) m h;
    }

-- ---- refusals

module _ (turns : ℕ) (e : RawEnv) (pages : ℕ) where
  -- the stage that refuses shows it of its program
  its_size : (l : ProgramLimit) → ExportsNone turns e pages (refusals.Program l) → (x : CallErasing turns e) × ShowsLarge x.program (refusals.Program l)
  its_size l (by_signature x w h) = absurd h
  its_size l (by_erasure x w h) = absurd h
  its_size limits.Captured (by_passes x h) = (x, refusals_show_sizes x.program compiling.Captured x.form h)
  its_size limits.Functions (by_passes x h) = (x, refusals_show_sizes x.program compiling.Functions x.form h)
  its_size limits.Locals (by_passes x h) = (x, refusals_show_sizes x.program compiling.Locals x.form h)
  its_size limits.ModuleBytes (by_passes x h) = absurd h
  its_size limits.ModuleBytes (by_bytes x valid h) = (x.before, large_for_calls turns e pages x h)
  its_size _ (by_bytes x valid h) = absurd h

  -- and there is one program
  pub call_shows_large : (l : ProgramLimit) → ExportsNone turns e pages (refusals.Program l) → IsLargeForCall turns (refusals.Program l) e
  call_shows_large l h x = let s = its_size l h in subst (λ P. ShowsLarge P (refusals.Program l)) (one_call_program turns e s.0 x) s.1

-- a refusal of some stage, or want of memory, is a cause
pub export_says : (q : Request) (r : Refusal) (bytes : List ℕ) (e : RawEnv) → SpellsWithin bytes e → ExportsNone q.turns e q.pages r → RefusalSays Export q r bytes
export_says q refusals.Memory bytes e s h = tt
export_says q refusals.Depth bytes e s h = (e, s, inr (((λ x. cc), h), λ x. tt))
export_says q refusals.TurnsSpent bytes e s h = (e, s, inr (((λ x. cc), h), λ x. tt))
export_says q (refusals.Broken n p) bytes e s h = (e, s, inr (((λ x. cc), h), λ x. tt))
export_says q refusals.Types bytes e s h = (e, s, inr (((λ x. cc), h), λ x. tt))
export_says q refusals.Arguments bytes e s h = (e, s, inr (((λ x. cc), h), λ x. tt))
export_says q refusals.NotFirstOrder bytes e s h = (e, s, inr (((λ x. cc), h), λ x. tt))
export_says q (refusals.Axiom name) bytes e s h = (e, s, inr (((λ x. cc), h), λ x. tt))
export_says q (refusals.Program l) bytes e s h = (e, s, inr (((λ x. cc), h), call_shows_large q.turns e q.pages l h))
export_says q _ bytes e s h = absurd (elim h [ by_signature x w k ↦ k | by_erasure x w k ↦ k | by_passes x k ↦ k | by_bytes x v k ↦ k ])

-- the passes, which come last before the writing
pub passes_say : (q : Request) (bytes : List ℕ) (e : RawEnv) → SpellsWithin bytes e → (x : CallErasing q.turns e) (k : ℕ) → k ≡ length x.before.signature.args → (r : Result Parts Refusal) →
    CallPassesSay k q.pages x.program r → CallModuleSays q r bytes
passes_say q bytes e s x k count (Ok m) (fits, is) =
    record { environment = e; spelled = s; stages = record { before = x; fits = fits }; module_is = is ∙ ap (λ n. module_of_call (passed x.program) n q.pages) count }
passes_say q bytes e s x k count (Err r) h = export_says q r bytes e s (by_passes x h)

-- ---- the writing of the module

module _ (q : Request) (range : IsInRange q) (bytes : List ℕ) (m : Parts) (made : IsCallModule q bytes m) where
  valid : IsValid (its_call_module q.pages made.stages)
  valid = let x = made.stages in fits_call_valid x.before.program (length x.before.before.signature.args) q.pages (omega (arith, range.pages.0)) (omega (arith, range.pages.1)) x.before.form x.fits

  pub call_bytes_say : {V : Type 0} (view : V → List ℕ) (r : Result V Refusal) → BytesSay view m r → JobSays Export q view r bytes
  call_bytes_say view (Ok v) h =
      let there = subst (λ y. BytesSay view y (Ok v)) made.module_is h in
      record { environment = made.environment; spelled = made.spelled; stages = made.stages; valid = valid; text_is = there.0; small = there.1; module_is = there.2 }
  call_bytes_say view (Err r) h = export_says q r bytes made.environment made.spelled (by_bytes made.stages valid (subst (λ y. BytesRefuse y r) made.module_is h))
