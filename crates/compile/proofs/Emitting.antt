-- From what each pass says to what emission asks, and to what the whole list of passes says.
use Rattle.std.proofs.Common.{◌≡◌, ◌+◌, ◌<◌, ◌≤◌, length, Result, Err, refl, sym, ap, subst, ◌∙◌, arith, inl, inr}
use Rattle.std.specs.Prelude.{IfOk, IfErr}
use Rattle.lambda_box.specs.BoxProgram.{BoxProgram}
use Rattle.lambda_box.specs.BoxForm.{IsBoxProgram}
use Rattle.lambda_box.specs.declared.fault.PassFault.{PassFault}
use Rattle.lambda_box.specs.declared.fault.PassFault.TheVariants as pass
use Rattle.box_passes.specs.PropMatch.{prop_match_program}
use Rattle.box_passes.specs.Saturate.{saturate_program}
use Rattle.box_passes.specs.PassLaws.{saturated_program}
use Rattle.box_passes.specs.PassResults.{IsDeep}
use Rattle.shrink_passes.specs.Inline.{inline_program}
use Rattle.shrink_passes.specs.DropParams.{drop_program}
use Rattle.shrink_passes.specs.ShrunkProgram.{shrunk_program}
use Rattle.anf_convert.specs.Anf.{AnfProgram}
use Rattle.anf_convert.specs.BoxForms.{ConstructorsWithin}
use Rattle.anf_convert.specs.ToAnf.{to_anf}
use Rattle.closure_lift.specs.CapturedLimit.{ProgramCaptures}
use Rattle.closure_lift.specs.Lifted.{Program}
use Rattle.closure_lift.specs.Lift.{lift}
use Rattle.closure_lift.specs.LiftedForm.{Formed, Limits, most_functions}
use Rattle.closure_lift.specs.Lifting.{most_words}
use Rattle.closure_lift.specs.declared.fault.LiftFault.{LiftFault}
use Rattle.closure_lift.specs.declared.fault.LiftFault.TheVariants as lifting
use Rattle.closure_lift.specs.NamedLift.{LiftIsRefused as IsNotLifted}
use Rattle.wasm_emit.specs.Emission.{Emits}
use Rattle.wasm_emit.specs.EmittedBodies.{FewLocals, MemoryOrNot}
use Rattle.wasm_emit.specs.declared.fault.EmitFault.{EmitFault}
use Rattle.wasm_emit.specs.declared.fault.EmitFault.TheVariants as emission
use Rattle.back_end.specs.BackEnd.{passed}
use Rattle.compile.specs.declared.fault.CompileFault.{CompileFault}
use Rattle.compile.specs.declared.fault.CompileFault.TheVariants as refusals
use Rattle.compile.specs.Passes.{IsShallow, CapturesFew, function_count, IsLowered, Fits, CompileIsRefused, of_pass, of_lifting, of_emission}
use Rattle.compile.proofs.Within.{lifted_formed, program_limits}

pub few_constructors : (P : BoxProgram) → IsBoxProgram P → ConstructorsWithin P 1024
few_constructors P form F has = (form.counts F has).constructors

-- the exit of a `?`

pub none_ok : {V E : Type 0} (Q : V → Type 0) (r : Result V E) (x : E) → (y : E) × (r ≡ Err y) × (y ≡ x) → IfOk r Q
none_ok Q r x (y, is, same) = subst (λ z. IfOk z Q) (sym is) tt

pub refused_at : {V : Type 0} (P : BoxProgram) (r : Result V CompileFault) (x : CompileFault) → (y : CompileFault) × (r ≡ Err y) × (y ≡ x) → CompileIsRefused P x → IfErr r (CompileIsRefused P)
refused_at P r x (y, is, same) h = subst (λ z. IfErr z (CompileIsRefused P)) (sym is) (subst (CompileIsRefused P) (sym same) h)

-- a pass that refuses for want of memory alone
pub no_memory : (P : BoxProgram) (f : PassFault) → f ≡ pass.Memory → CompileIsRefused P (of_pass f)
no_memory P f e = subst (λ x. CompileIsRefused P (of_pass x)) (sym e) tt

-- saturation
pub too_deep : (P O : BoxProgram) → O ≡ prop_match_program P → (f : PassFault) → (f ≡ pass.TooDeep → IsDeep (saturate_program O)) → CompileIsRefused P (of_pass f)
too_deep P O o pass.TooDeep h = subst (λ x. IsDeep (saturate_program x)) o (h refl)
too_deep P O o pass.Memory h = tt

-- what stands after each pass

-- the programs of the passes before A-normal form
pub record Passed (P S : BoxProgram) (A : AnfProgram) : Type 0 where
  pub O : BoxProgram
  pub I : BoxProgram
  pub D : BoxProgram
  pub o : O ≡ prop_match_program P
  pub s : S ≡ saturate_program O
  pub i : I ≡ inline_program S
  pub d : D ≡ drop_program I
  pub a : A ≡ to_anf D

module _ (P S : BoxProgram) (A : AnfProgram) (x : Passed P S A) where
  pub saturated_is : S ≡ saturated_program P
  saturated_is = x.s ∙ ap saturate_program x.o

  pub normal_is : A ≡ to_anf (shrunk_program P)
  normal_is = x.a ∙ ap to_anf (x.d ∙ ap drop_program (x.i ∙ ap inline_program saturated_is))

  pub is_shallow : (IsDeep S → ⊥) → IsShallow P
  is_shallow h d = h (subst IsDeep (sym saturated_is) d)

  -- a refusal of lifting
  pub not_lifted : (IsDeep S → ⊥) → (f : LiftFault) → IsNotLifted A f → CompileIsRefused P (of_lifting f)
  not_lifted h lifting.Captured n = (is_shallow h, λ c. n (subst (ProgramCaptures most_words) (sym normal_is) c))
  not_lifted h lifting.Functions (c, many) = (is_shallow h, subst (ProgramCaptures most_words) normal_is c, subst (λ (y : AnfProgram). most_functions < length y.constants + length (lift y).functions) normal_is many)
  not_lifted h lifting.Memory n = tt

  module _ (Q : Program) (q : Q ≡ lift A) where
    pub lifted_is : Q ≡ passed P
    lifted_is = q ∙ ap lift normal_is

    pub counted : length A.constants + length Q.functions ≤ most_functions → function_count P ≤ most_functions
    counted h = subst (λ (x : AnfProgram). length x.constants + length (passed P).functions ≤ most_functions) normal_is (subst (λ (x : Program). length A.constants + length x.functions ≤ most_functions) lifted_is h)

    pub captured : ProgramCaptures most_words A → CapturesFew P
    captured c = subst (ProgramCaptures most_words) normal_is c

    -- emission's condition
    pub emits : IsBoxProgram P → (IsDeep S → ⊥) → ProgramCaptures most_words A → length Q.constants ≡ length A.constants → length A.constants + length Q.functions ≤ most_functions → Emits Q
    emits form h c same few =
        let shallow = is_shallow h in
        let functions : length (passed P).functions ≤ 32768 = subst (λ (x : Program). length x.functions ≤ 32768) lifted_is (omega (arith, few)) in
        record {
          most = 1024;
          formed = subst (λ x. Formed x 1024) (sym lifted_is) (lifted_formed P 1024 form shallow (few_constructors P form));
          within = subst Limits (sym lifted_is) (program_limits P 1024 form shallow (few_constructors P form) (captured c) functions);
          constants = omega (arith, same, few);
          branches = omega arith;
        }

    pub all_lower : (IsDeep S → ⊥) → ProgramCaptures most_words A → length A.constants + length Q.functions ≤ most_functions → IsLowered P
    all_lower h c few = (is_shallow h, captured c, counted few)

-- ---- emission

module _ (P : BoxProgram) (Q : Program) (q : Q ≡ passed P) (low : IsLowered P) where
  pub all_fit : FewLocals Q → Fits P
  all_fit locals = record { shallow = low.0; captures = low.1; few = low.2; locals = subst FewLocals q locals }

  -- its refusals
  pub not_emitted : (f : EmitFault) → MemoryOrNot f (FewLocals Q) → CompileIsRefused P (of_emission f)
  not_emitted f n =
      elim n [
        | inl e ↦ subst (λ x. CompileIsRefused P (of_emission x)) (sym e) tt
        | inr m ↦ subst (λ x. CompileIsRefused P (of_emission x)) (sym m.0) (low.0, low.1, low.2, λ l. m.1 (subst FewLocals (sym q) l))
      ]
