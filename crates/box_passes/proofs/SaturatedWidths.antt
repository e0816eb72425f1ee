-- Blocks of the saturated program are no wider than the words of the program before.
use Rattle.std.proofs.Common.{◌≡◌, ℕ, zero, suc, ◌+◌, ◌-◌, max, ◌<◌, ◌≤◌, if◌then◌else◌, List, [], ◌∷◌, length, drop, Option, Some, None, refl, sym, ap, ◌∙◌, subst, ⊎_elim, arith, length-append}
use Rattle.std.proofs.lemmas.Bool.{cases_lt, le-leb, lt-leb}
use Rattle.std.specs.Prelude.{slice_get}
use Rattle.trees.specs.Tree.{Rel, Done, Next}
use Rattle.pc_terms.specs.declared.leaf.FamilyId.{FamilyId}
use Rattle.box_terms.specs.BoxSyntax.{BoxTerm, BoxTerms, Box, BLambda, BLetIn, BApp, BConst, BConstruct, BCase, BFix}
use Rattle.lambda_box.specs.BoxProgram.{BoxConstant, BoxFamily, BoxProgram, Has, KeepsBoxFamily, here, there, box_apply}
use Rattle.lambda_box.specs.DataTerms.{binder_depth, binder_depth_terms, binder_depth_constants, greatest_arguments, greatest_words, ValuesHold, hold_none, hold_last}
use Rattle.lambda_box.specs.BoxData.{Data}
use Rattle.lambda_box.specs.ClosureEvaluation.{ClosureValue, ClosureValues, Empty, bind_all, size, Counts, ClosureRun}
use Rattle.lambda_box.specs.OrdinaryForm.{family_of}
use Rattle.box_passes.specs.Saturate.{innermost, lambdas, constructor_function, saturate_counted, saturate_arguments, saturate_family, saturate_applied, saturate_terms, saturate_term, saturate_constant, without_parameters, saturate_program}
use Rattle.box_passes.specs.SaturateLaws.{SaturatedWidths}
use Rattle.box_passes.proofs.PropMatch.{family_of_is}
use Rattle.box_passes.proofs.SaturatedSize.{slice_small}
use Rattle.box_passes.proofs.Widths.{FitsTerm, fits_rel, fits_box, fits_lambda, fits_let, fits_app, fits_const, fits_construct, fits_case, fits_fix, fits_function, FitsTerms, fits_done, fits_next, fits_more, held_fit, called_small, main_small}
use Rattle.trees.proofs.Lists.{of_has_map}

arguments_small : (Fs : List BoxFamily) (F : BoxFamily) (c n : ℕ) → Has Fs F → slice_get F.args c ≡ Some n → n ≤ greatest_arguments Fs
arguments_small (F ∷ Fs) G c n here e = omega (arith, slice_small F.args c n e)
arguments_small (G ∷ Fs) F c n (there h) e = omega (arith, arguments_small Fs F c n h e)
arguments_small [] F c n h e = elim h [ ]

module _ (A : ℕ) where
  abbrev AllFit : ℕ → List BoxTerm → Type 0
  AllFit d [] = Unit {0}
  AllFit d (x ∷ xs) = FitsTerm A d x × AllFit d xs

  fits_apply : {d : ℕ} {f : BoxTerm} (xs : List BoxTerm) → FitsTerm A d f → AllFit d xs → FitsTerm A d (box_apply f xs)
  fits_apply [] h g = h
  fits_apply {f = f} (x ∷ xs) h g = fits_apply {f = BApp f x} xs (fits_app h g.0) g.1

  fits_drop : (d p : ℕ) (xs : List BoxTerm) → AllFit d xs → AllFit d (drop p xs)
  fits_drop d zero xs g = g
  fits_drop d (suc p) [] g = tt
  fits_drop d (suc p) (x ∷ xs) g = fits_drop d p xs g.1

  function_fits : (d m n : ℕ) (f : FamilyId) (c : ℕ) → n ≤ A → n ≤ m → 0 < m → FitsTerm A d (lambdas m (box_apply (BConstruct f c) (innermost n)))
  function_fits d zero n f c l le lt = absurd (omega arith)
  function_fits d (suc m) n f c l le lt = fits_function m n f c l le refl

  counted_fits : (d p n : ℕ) (f : FamilyId) (c : ℕ) (xs : List BoxTerm) → n ≤ A → AllFit d xs → FitsTerm A d (saturate_counted p n f c xs)
  counted_fits d p n f c xs l gs =
      ⊎_elim
      (λ lt. subst (λ q. FitsTerm A d (if q then box_apply (BConstruct f c) (drop p xs) else box_apply (constructor_function p n f c) xs)) (sym (lt-leb (p + n) (length xs) lt)) (fits_apply xs (function_fits d (p + n) n f c l (omega arith) (omega arith)) gs))
      (λ le. subst (λ q. FitsTerm A d (if q then box_apply (BConstruct f c) (drop p xs) else box_apply (constructor_function p n f c) xs)) (sym (le-leb (p + n) (length xs) le)) (fits_apply (drop p xs) fits_construct (fits_drop d p xs gs)))
      (cases_lt (length xs) (p + n))

  module _ (Fs : List BoxFamily) (few : (F : BoxFamily) (c n : ℕ) → Has Fs F → slice_get F.args c ≡ Some n → n ≤ A) where
    arguments_fits : (d : ℕ) (F : BoxFamily) (o : Option ℕ) (f : FamilyId) (c : ℕ) (xs : List BoxTerm) → Has Fs F → slice_get F.args c ≡ o → AllFit d xs → FitsTerm A d (saturate_arguments F.params o f c xs)
    arguments_fits d F None f c xs h e gs = fits_apply xs fits_construct gs
    arguments_fits d F (Some n) f c xs h e gs = counted_fits d F.params n f c xs (few F c n h e) gs

    family_fits : (d : ℕ) (o : Option BoxFamily) (f : FamilyId) (c : ℕ) (xs : List BoxTerm) → family_of Fs f ≡ o → AllFit d xs → FitsTerm A d (saturate_family o f c xs)
    family_fits d None f c xs e gs = fits_apply xs fits_construct gs
    family_fits d (Some F) f c xs e gs = let r = family_of_is Fs f F e in arguments_fits d F (slice_get F.args c) f c xs r.0 refl gs

    mutual
      pub fits_applied : (d : ℕ) (t : BoxTerm) (xs : List BoxTerm) → binder_depth t ≤ d → AllFit d xs → FitsTerm A d (saturate_applied Fs t xs)
      fits_applied d (Rel i) xs l gs = fits_apply xs fits_rel gs
      fits_applied d Box xs l gs = fits_apply xs fits_box gs
      fits_applied d (BLambda b) xs l gs = fits_apply xs (fits_lambda (d - 1) (omega arith) (fits_applied (d - 1) b [] (omega arith) tt)) gs
      fits_applied d (BLetIn b t) xs l gs = fits_apply xs (fits_let (d - 1) (omega arith) (fits_applied d b [] (omega arith) tt) (fits_applied (d - 1) t [] (omega arith) tt)) gs
      fits_applied d (BApp f a) xs l gs = fits_applied d f (saturate_term Fs a ∷ xs) (omega arith) (fits_applied d a [] (omega arith) tt, gs)
      fits_applied d (BConst k) xs l gs = fits_apply xs fits_const gs
      fits_applied d (BConstruct f c) xs l gs = family_fits d (family_of Fs f) f c xs refl gs
      fits_applied d (BCase f s bs) xs l gs = fits_apply xs (fits_case (fits_applied d s [] (omega arith) tt) (fits_saturated d bs (omega arith))) gs
      fits_applied d (BFix i rargs bodies) xs l gs = fits_apply xs (fits_fix (fits_saturated d bodies (omega arith))) gs

      fits_saturated : (d : ℕ) (ts : BoxTerms) → binder_depth_terms ts ≤ d → FitsTerms A d (saturate_terms Fs ts)
      fits_saturated d Done l = fits_done
      fits_saturated d (Next n t ts) l = fits_next (d - n) (omega arith) (fits_applied (d - n) t [] (omega arith) tt) (fits_saturated d ts (omega arith))

constant_small : (cs : List BoxConstant) (d : BoxConstant) → Has cs d → binder_depth d.body ≤ binder_depth_constants cs
constant_small [] d h = elim h [ ]
constant_small (e ∷ cs) d here = omega arith
constant_small (e ∷ cs) d (there h) = omega (arith, constant_small cs d h)

abbrev pub most_depth : BoxProgram → ℕ
most_depth P = max (binder_depth P.main) (binder_depth_constants P.constants)

-- the terms of the saturated program
pub main_fits : (P : BoxProgram) → FitsTerm (greatest_arguments P.families) (most_depth P) (saturate_program P).main
main_fits P = fits_applied (greatest_arguments P.families) P.families (arguments_small P.families) (most_depth P) P.main [] (omega arith) tt

pub constant_fits : (P : BoxProgram) (d : BoxConstant) → Has (saturate_program P).constants d → FitsTerm (greatest_arguments P.families) (most_depth P) d.body
constant_fits P d at =
    let r = of_has_map (saturate_constant P.families) P.constants at in
    subst (λ e. FitsTerm (greatest_arguments P.families) (most_depth P) e.body) r.2 (fits_applied (greatest_arguments P.families) P.families (arguments_small P.families) (most_depth P) r.0.body [] (omega (arith, constant_small P.constants r.0 r.1)) tt)

-- its families' constructors have few arguments
few_arguments : (P : BoxProgram) (f : FamilyId) (F : BoxFamily) (i n : ℕ) → KeepsBoxFamily (saturate_program P) f F → slice_get F.args i ≡ Some n → n ≤ greatest_arguments P.families
few_arguments P f F i n kept at = let r = of_has_map without_parameters P.families kept.0 in arguments_small P.families r.0 i n r.1 (ap (λ F. slice_get F.args i) r.2 ∙ at)

pub saturated_widths : SaturatedWidths
saturated_widths P ok v c run =
    main_small (most_depth P) (greatest_arguments P.families) (saturate_program P) (λ k b at. constant_fits P (record { name = k; body = b }) at) (few_arguments P) run (main_fits P)

-- so it is of main applied to values that are data, but for a word of each of them

pub held_count : {vs : ClosureValues} {args : List Data} → ValuesHold vs args → size vs ≡ length args
held_count hold_none = refl
held_count (hold_last {d = d} {ds = ds} hs r) = omega (arith, length-append ds (d ∷ []), held_count hs)

spine_fits : {A d : ℕ} {f : BoxTerm} (n : ℕ) → FitsTerm A d f → FitsTerm A d (box_apply f (innermost n))
spine_fits zero h = h
spine_fits {f = f} (suc n) h = spine_fits {f = BApp f (Rel n)} n (fits_app h fits_rel)

pub called_widths : (P : BoxProgram) (vs : ClosureValues) (args : List Data) → ValuesHold vs args → (k : ℕ) (v : ClosureValue) (c : Counts) →
    ClosureRun (saturate_program P) (bind_all vs Empty) (box_apply (saturate_program P).main (innermost k)) v c → c.greatest ≤ greatest_words P + length args
called_widths P vs args held k v c run =
    let n = length args in
    let D = most_depth P in
    let A = greatest_arguments P.families in
    let small = called_small (D + n) A (saturate_program P) (λ k b at. fits_more n (constant_fits P (record { name = k; body = b }) at)) (few_arguments P) run (held_fit (D + n) A held) D (spine_fits k (main_fits P))
    (omega (arith, held_count held)) in
    omega (arith, small)
