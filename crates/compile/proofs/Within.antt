-- A program that has a module meets the conditions of the back end's theorems; and a program is refused for one cause.
use Rattle.std.proofs.Common.{◌≡◌, ℕ, ◌<◌, ◌≤◌, List, refl, sym, subst, arith, inl, inr}
use Rattle.std.specs.Prelude.{length}
use Rattle.std.proofs.lemmas.Bool.{cases_lt}
use Rattle.trees.specs.Measures.{depth, depth_limit}
use Rattle.lambda_box.specs.BoxProgram.{BoxConstant, BoxFamily, BoxProgram, Has}
use Rattle.lambda_box.specs.BoxForm.{IsBoxProgram}
use Rattle.box_passes.specs.PassLaws.{saturated_program}
use Rattle.box_passes.specs.PassResults.{IsDeep, deep_main, deep_constant}
use Rattle.shrink_passes.specs.ShrunkProgram.{shrunk_program}
use Rattle.shrink_passes.proofs.ShrunkPrograms.{shrunk_forms, shrunk_shallow}
use Rattle.anf_convert.specs.AnfForm.{AnfFormed}
use Rattle.anf_convert.specs.BoxForms.{ConstructorsWithin}
use Rattle.anf_convert.specs.ToAnf.{to_anf}
use Rattle.anf_convert.proofs.Prepared.{all_shallow, form_kept}
use Rattle.closure_lift.specs.LiftedForm.{Limits, Formed}
use Rattle.closure_lift.proofs.CapturedLimit.{captured_exactly}
use Rattle.closure_lift.proofs.Forms.{lift_forms}
use Rattle.known_calls.proofs.KnownValidity.{calls_valid}
use Rattle.back_end.specs.BackEnd.{passed}
use Rattle.back_end.proofs.Whole.{families}
use Rattle.back_end.proofs.Total.{total_back_end, total_valid}
use Rattle.back_end.proofs.Bounds.{bounds}
use Rattle.compile.specs.declared.fault.CompileFault.{CompileFault}
use Rattle.compile.specs.declared.fault.CompileFault.TheVariants as refusals
use Rattle.compile.specs.Passes.{IsShallow, CapturesFew, Fits, CompileIsRefused, CausesAreOne, FittingProgramsAreWithin, FittingCallsAreValid, FittingProgramsAnswer, FittingProgramsAreValid}

not_more : (n d : ℕ) → (n < d → ⊥) → d ≤ n
not_more n d h = elim (cases_lt n d) [ inl lt ↦ absurd (h lt) | inr le ↦ le ]

pub main_shallow : (P : BoxProgram) → (IsDeep P → ⊥) → depth P.main ≤ depth_limit
main_shallow P h = not_more depth_limit (depth P.main) (λ lt. h (deep_main lt))

pub constant_shallow : (P : BoxProgram) → (IsDeep P → ⊥) → (d : BoxConstant) → Has P.constants d → depth d.body ≤ depth_limit
constant_shallow P h d has = not_more depth_limit (depth d.body) (λ lt. h (deep_constant d has lt))

-- the program in A-normal form of a program within the depth limit has its names in scope
pub normal_formed : (P : BoxProgram) (m : ℕ) → IsBoxProgram P → IsShallow P → ConstructorsWithin P m → AnfFormed (to_anf (shrunk_program P)) m
normal_formed P m form shallow few =
    let S = shrunk_program P in
    let kept = shrunk_forms P form in
    let depths = shrunk_shallow P form depth_limit (constant_shallow (saturated_program P) shallow) (main_shallow (saturated_program P) shallow) in
    let fewer : ConstructorsWithin S m = subst (λ (Fs : List BoxFamily). (F : BoxFamily) → Has Fs F → length F.args ≤ m) (sym kept.families) (families P.families m few) in
    form_kept S (to_anf S) refl (all_shallow S.constants depths.0) depths.1 kept.form kept.ordinary m fewer

pub lifted_formed : (P : BoxProgram) (m : ℕ) → IsBoxProgram P → IsShallow P → ConstructorsWithin P m → Formed (passed P) m
lifted_formed P m form shallow few = lift_forms (to_anf (shrunk_program P)) m (normal_formed P m form shallow few)

pub program_limits : (P : BoxProgram) (m : ℕ) → IsBoxProgram P → IsShallow P → ConstructorsWithin P m → CapturesFew P → length (passed P).functions ≤ 32768 → Limits (passed P)
program_limits P m form shallow few captures functions = record {
  captured = λ g fn at. (let h = (captured_exactly (to_anf (shrunk_program P)) 1001 m (normal_formed P m form shallow few)).0 captures g fn at in omega (arith, h));
  few = functions;
}

pub fits_within : FittingProgramsAreWithin
fits_within P m form fits few = record {
  form = form;
  constructors = few;
  constants = constant_shallow (saturated_program P) fits.shallow;
  main = main_shallow (saturated_program P) fits.shallow;
  limits = program_limits P m form fits.shallow few fits.captures (let h = fits.few in omega (arith, h));
}

pub fits_answer : FittingProgramsAnswer
fits_answer P pages m w ns n matched pos small some form fits few evaluates reads =
    let ok = fits_within P m form fits few in (
      total_back_end P pages m w ns n matched pos small some ok evaluates reads,
      bounds P pages m w ns n matched pos small some ok evaluates reads,
    )

pub fits_valid : FittingProgramsAreValid
fits_valid P pages pos small form fits = total_valid P pages 1024 pos small (fits_within P 1024 form fits (λ F has. (form.counts F has).constructors))

pub fits_call_valid : FittingCallsAreValid
fits_call_valid P k pages pos small form fits = calls_valid (passed P) k pages 1024 pos small (lifted_formed P 1024 form fits.shallow (λ F has. (form.counts F has).constructors))

one_refusal : (P : BoxProgram) (a b : CompileFault) → CompileIsRefused P a → CompileIsRefused P b → (a ≡ refusals.Memory → ⊥) → (b ≡ refusals.Memory → ⊥) → a ≡ b
one_refusal P refusals.Memory b h k n m = absurd (n refl)
one_refusal P a refusals.Memory h k n m = absurd (m refl)
one_refusal P refusals.Depth refusals.Depth h k n m = refl
one_refusal P refusals.Depth refusals.Captured h k n m = absurd (k.0 h)
one_refusal P refusals.Depth refusals.Functions h k n m = absurd (k.0 h)
one_refusal P refusals.Depth refusals.Locals h k n m = absurd (k.0 h)
one_refusal P refusals.Captured refusals.Depth h k n m = absurd (h.0 k)
one_refusal P refusals.Captured refusals.Captured h k n m = refl
one_refusal P refusals.Captured refusals.Functions h k n m = absurd (h.1 k.1)
one_refusal P refusals.Captured refusals.Locals h k n m = absurd (h.1 k.1)
one_refusal P refusals.Functions refusals.Depth h k n m = absurd (h.0 k)
one_refusal P refusals.Functions refusals.Captured h k n m = absurd (k.1 h.1)
one_refusal P refusals.Functions refusals.Functions h k n m = refl
one_refusal P refusals.Functions refusals.Locals h k n m = absurd (omega (arith, h.2, k.2))
one_refusal P refusals.Locals refusals.Depth h k n m = absurd (h.0 k)
one_refusal P refusals.Locals refusals.Captured h k n m = absurd (k.1 h.1)
one_refusal P refusals.Locals refusals.Functions h k n m = absurd (omega (arith, h.2, k.2))
one_refusal P refusals.Locals refusals.Locals h k n m = refl

not_both : (P : BoxProgram) (a : CompileFault) → CompileIsRefused P a → (a ≡ refusals.Memory → ⊥) → Fits P → ⊥
not_both P refusals.Memory h n f = n refl
not_both P refusals.Depth h n f = f.shallow h
not_both P refusals.Captured h n f = h.1 f.captures
not_both P refusals.Functions h n f = omega (arith, h.2, f.few)
not_both P refusals.Locals h n f = h.3 f.locals

pub causes_are_one : CausesAreOne
causes_are_one = record { refused = one_refusal; fits = not_both }
