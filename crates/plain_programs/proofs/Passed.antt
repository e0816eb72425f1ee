-- A program whose main is a constructor without arguments, on its way through the passes, by computation.
use Rattle.std.proofs.Common.{◌≡◌, ℕ, zero, suc, ◌+◌, ◌≤◌, max, Bool, true, false, List, [], ◌∷◌, map, length, Option, Some, refl, sym, ap, subst, ◌∙◌, arith, lit≤}
use Rattle.std.specs.Prelude.{slice_get, if◌then◌else◌}
use Rattle.pc_terms.specs.declared.leaf.FamilyId.{FamilyId}
use Rattle.box_terms.specs.BoxSyntax.{BoxTerm, BConstruct}
use Rattle.lambda_box.specs.BoxProgram.{BoxFamily, BoxProgram}
use Rattle.lambda_box.specs.BoxForm.{IsBoxProgram}
use Rattle.lambda_box.specs.BoxEvaluation.{BoxEvaluates, value, construct_is, IsBoxConstructor, is_box_constructor}
use Rattle.lambda_box.specs.BoxData.{box_reads, no_box_field}
use Rattle.lambda_box.specs.DataTerms.{greatest_of, greatest_arguments, greatest_words}
use Rattle.lambda_box.specs.OrdinaryForm.{same_family, family_of}
use Rattle.box_passes.specs.Saturate.{saturate_arguments, saturate_family, without_parameters}
use Rattle.box_passes.specs.PassLaws.{saturated_program}
use Rattle.box_passes.specs.PassResults.{IsDeep, deep_main, deep_constant}
use Rattle.anf_convert.specs.declared.program.Atom.TheVariants.{Empty as AEmpty}
use Rattle.shrink_passes.specs.Inline.{inline_program}
use Rattle.shrink_passes.specs.DropParams.{drop_program}
use Rattle.anf_convert.specs.ToAnf.{to_anf}
use Rattle.closure_lift.specs.Lifted.{TailAtom, Program}
use Rattle.closure_lift.specs.Lift.{lift}
use Rattle.closure_lift.specs.CapturedLimit.{ProgramCaptures}
use Rattle.closure_lift.specs.Lifting.{most_words}
use Rattle.wasm_core.specs.ShortestBytes.{module_bytes}
use Rattle.known_calls.specs.KnownModule.{module_of}
use Rattle.wasm_emit.specs.EmittedBodies.{FewLocals}
use Rattle.wasm_emit.specs.EmitLaws.{CountsFit}
use Rattle.known_calls.specs.KnownWeight.{program_weight}
use Rattle.known_calls.proofs.KnownSizes.{known_sized}
use Rattle.back_end.specs.BackEnd.{passed}
use Rattle.compile.specs.Passes.{Fits}
use Rattle.compile.proofs.Within.{lifted_formed, fits_within}
use Rattle.plain_programs.specs.PlainProgram.{AreZero, HaveNoCounts, plain_program}
use Rattle.plain_programs.specs.Laws.{PlainProgramsEvaluate, PlainProgramsFit, PlainModulesAreSmall}

-- ---- the constructor is saturated as it is

no_arguments : (f : FamilyId) (c : ℕ) (ns : List ℕ) (k : ℕ) → AreZero ns → saturate_arguments 0 (slice_get ns k) f c [] ≡ BConstruct f c
no_arguments f c [] k h = refl
no_arguments f c (n ∷ ns) zero h = ap (λ n. saturate_arguments 0 (Some n) f c []) h.0
no_arguments f c (n ∷ ns) (suc k) h = no_arguments f c ns k h.1

of_family : (F : BoxFamily) (f : FamilyId) (c : ℕ) → F.params ≡ 0 → AreZero F.args → saturate_family (Some F) f c [] ≡ BConstruct f c
of_family F f c e h = ap (λ p. saturate_arguments p (slice_get F.args c) f c []) e ∙ no_arguments f c F.args c h

abbrev first_or : Bool → BoxFamily → Option BoxFamily → Option BoxFamily
first_or b F o = if b then Some F else o

either : (b : Bool) (F : BoxFamily) (o : Option BoxFamily) (f : FamilyId) (c : ℕ) → saturate_family (Some F) f c [] ≡ BConstruct f c → saturate_family o f c [] ≡ BConstruct f c →
    saturate_family (first_or b F o) f c [] ≡ BConstruct f c
either true F o f c h k = h
either false F o f c h k = k

saturated : (Fs : List BoxFamily) (f : FamilyId) (c : ℕ) → HaveNoCounts Fs → saturate_family (family_of Fs f) f c [] ≡ BConstruct f c
saturated [] f c h = refl
saturated (F ∷ Fs) f c h = either (same_family F.id f) F (family_of Fs f) f c (of_family F f c h.0 h.1) (saturated Fs f c h.2)

-- ---- no words for arguments

no_greatest : (ns : List ℕ) → AreZero ns → greatest_of ns ≡ 0
no_greatest [] h = refl
no_greatest (n ∷ ns) h = ap (λ x. max x (greatest_of ns)) h.0 ∙ ap (max 0) (no_greatest ns h.1)

no_words : (Fs : List BoxFamily) → HaveNoCounts Fs → greatest_arguments Fs ≡ 0
no_words [] h = refl
no_words (F ∷ Fs) h = ap (λ x. max x (greatest_arguments Fs)) (no_greatest F.args h.1) ∙ ap (max 0) (no_words Fs h.2)

-- ---- the program after the passes

abbrev bare : ℕ → Program
bare c = record { functions = []; constants = []; main = TailAtom (AEmpty c) }

abbrev program_with : List BoxFamily → BoxTerm → BoxProgram
program_with Fs t = record { constants = []; families = map without_parameters Fs; main = t }

module _ (Fs : List BoxFamily) (f : FamilyId) (c : ℕ) (h : HaveNoCounts Fs) where
  abbrev P : BoxProgram
  P = plain_program Fs f c

  abbrev Q : BoxProgram
  Q = program_with Fs (BConstruct f c)

  saturated_is : saturated_program P ≡ Q
  saturated_is = ap (program_with Fs) (saturated Fs f c h)

  passed_is : passed P ≡ bare c
  passed_is = ap (λ Q. lift (to_anf (drop_program (inline_program Q)))) saturated_is

  none_deep : IsDeep Q → ⊥
  none_deep (deep_main lt) = omega (arith, lt)
  none_deep (deep_constant d has lt) = elim has [ ]

  fits : Fits P
  fits = record {
    shallow = subst (λ Q. IsDeep Q → ⊥) (sym saturated_is) none_deep;
    captures = subst (λ (Q : BoxProgram). ProgramCaptures most_words (to_anf (drop_program (inline_program Q)))) (sym saturated_is) (record { constants = tt; main = tt });
    few = subst (λ (L : Program). 0 + length L.functions ≤ 32768) (sym passed_is) (lit≤ tt);
    locals = subst FewLocals (sym passed_is) (record { functions = tt; constants = tt; main = lit≤ tt });
  }

  words : greatest_words P ≡ 4
  words = ap (λ n. 4 + n) (no_words Fs h)

  counts : (m : ℕ) → m ≤ 65536 → CountsFit (bare c) m
  counts m le = record { functions = λ g fn at. absurd cc; bodies = λ x t at. absurd cc; main = lit≤ tt; constants = lit≤ tt; branches = le }

  bytes : (pages : ℕ) → IsBoxProgram P → length (module_bytes (module_of (passed P) pages)) ≤ 16777216
  bytes pages form =
      let w = fits_within P 1024 form fits (λ F has. (form.counts F has).constructors) in
      let formed = lifted_formed P 1024 form fits.shallow (λ F has. (form.counts F has).constructors) in
      let sized = known_sized (passed P) pages 1024 formed w.limits (subst (λ L. CountsFit L 1024) (sym passed_is) (counts 1024 (lit≤ tt))) in
      let weight : program_weight (passed P) ≡ 8 = ap program_weight passed_is in
      omega (arith, sized, weight)

-- ---- the laws

pub programs_fit : PlainProgramsFit
programs_fit P f c h = (
  subst Fits (sym h.is) (fits P.families f c h.no_counts),
  ap greatest_words h.is ∙ words P.families f c h.no_counts,
)

pub modules_are_small : PlainModulesAreSmall
modules_are_small P f c pages form h =
    subst (λ P. length (module_bytes (module_of (passed P) pages)) ≤ 16777216) (sym h.is) (bytes P.families f c h.no_counts pages (subst IsBoxProgram h.is form))

pub programs_evaluate : PlainProgramsEvaluate
programs_evaluate P f c h =
    let main : P.main ≡ BConstruct f c = ap (λ (P : BoxProgram). P.main) h.is in
    let built : IsBoxConstructor P f c P.main [] [] = is_box_constructor (h.there, h.named) h.not_prop h.count (sym h.params) refl main in (
      subst (λ t. BoxEvaluates P t t 1 0) (sym main) (value construct_is),
      box_reads built no_box_field,
    )
