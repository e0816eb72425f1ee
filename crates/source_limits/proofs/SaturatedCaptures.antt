-- Of the passed program: captured words are at most the binders of the saturated program, and at most the words of the program before the passes.
use Rattle.std.proofs.Common.{◌≡◌, ◌⊎◌, ℕ, suc, ◌+◌, ◌-◌, ◌≤◌, List, [], ◌∷◌, length, false, refl, subst, inl, inr, arith}
use Rattle.trees.specs.Tree.{Rel, Done, Next}
use Rattle.trees.specs.Measures.{depth_limit}
use Rattle.box_terms.specs.BoxSyntax.{BoxTerm, BoxTerms, Box, BLambda, BLetIn, BApp, BConst, BConstruct, BCase, BFix}
use Rattle.lambda_box.specs.BoxProgram.{BoxConstant, BoxFamily, BoxProgram, Has, here, there}
use Rattle.lambda_box.specs.BoxForm.{IsFixBody, boxed, last, more, AreFixBodies, HasBoxForm, HasBoxFormTerms, IsBoxProgram}
use Rattle.lambda_box.specs.ClosureEvaluation.{VBox, ClosureEnv, Empty, Bind, BindFix, box_values, bind_all, words, names, names_terms}
use Rattle.lambda_box.specs.DataTerms.{greatest_arguments}
use Rattle.lambda_box.proofs.Naming.{ordered_body}
use Rattle.box_passes.specs.PropMatch.{prop_match_program}
use Rattle.box_passes.specs.PassLaws.{saturated_program}
use Rattle.box_passes.proofs.Narrow.{Narrow, NarrowBranches, NarrowDefs, fits_narrow, plain_boxes}
use Rattle.box_passes.proofs.Passes.{passes_form}
use Rattle.shrink_passes.specs.ShrunkProgram.{shrunk_program}
use Rattle.shrink_passes.proofs.ShrunkNarrow.{AreFine, shrunk_narrow}
use Rattle.shrink_passes.proofs.ShrunkPrograms.{shrunk_forms, shrunk_shallow}
use Rattle.box_passes.proofs.PropMatchForm.{prop_match_program_sizes}
use Rattle.box_passes.proofs.SaturatedWidths.{most_depth, main_fits, constant_fits}
use Rattle.box_passes.proofs.Widths.{plain, words_plain, words_none}
use Rattle.anf_convert.specs.ToAnf.{number_in, to_anf}
use Rattle.anf_convert.specs.ToAnfKeeps.{CanBeConverted}
use Rattle.anf_convert.proofs.Prepared.{data_kept, all_shallow}
use Rattle.closure_lift.specs.CapturedLimit.{ProgramCaptures}
use Rattle.back_end.proofs.CapturedWords.{code_few}
use Rattle.back_end.proofs.Sizes.{constants_capture}
use Rattle.compile.specs.Passes.{IsShallow}
use Rattle.compile.proofs.Within.{main_shallow, constant_shallow}
use Rattle.source_limits.specs.LambdaBinders.{lambda_binders, lambda_binders_terms, constants_binders}
use Rattle.source_limits.specs.Laws.{SaturatedCapturesAreFew, WordsBoundCaptures}

-- bodies of a fixpoint that aren't all box have a lambda

first_lambda : (d m : ℕ) (bs : BoxTerms) {r : ℕ} {b : BoxTerm} → IsFixBody r b → ((i : ℕ) → names_terms bs i ≡ false) ⊎ (d ≤ lambda_binders_terms d bs) →
    ((i : ℕ) → names_terms (Next m b bs) i ≡ false) ⊎ (d ≤ lambda_binders_terms d (Next m b bs))
first_lambda d m bs boxed (inl none) = inl none
first_lambda d m bs boxed (inr le) = inr (omega (arith, le))
first_lambda d m bs last rest = inr (omega arith)
first_lambda d m bs (more f) rest = inr (omega arith)

some_lambda : (d n : ℕ) (rs : List ℕ) (bs : BoxTerms) → AreFixBodies n rs bs → ((i : ℕ) → names_terms bs i ≡ false) ⊎ (d ≤ lambda_binders_terms d bs)
some_lambda d n [] Done h = inl (λ i. refl)
some_lambda d n [] (Next m b bs) h = absurd h
some_lambda d n (r ∷ rs) Done h = absurd h
some_lambda d n (r ∷ rs) (Next m b bs) h = first_lambda d m bs h.1 (some_lambda d n rs bs h.2)

module _ (Fs : List BoxFamily) (C : ℕ) where
  -- a fixpoint's words
  fix_words_few : (e : ClosureEnv) (d n : ℕ) (rs : List ℕ) (bs : BoxTerms) → plain e ≤ d → AreFixBodies n rs bs → lambda_binders_terms d bs ≤ C → words e (λ i. names_terms bs i) ≤ C
  fix_words_few e d n rs bs p form le =
      elim (some_lambda d n rs bs form) [
        | inl none ↦ omega (arith, words_none e (λ i. names_terms bs i) none)
        | inr some ↦ omega (arith, words_plain e (λ i. names_terms bs i), p, some, le)
      ]

  mutual
    narrow : (e : ClosureEnv) (d : ℕ) (t : BoxTerm) → plain e ≤ d → HasBoxForm Fs t → lambda_binders d t ≤ C → Narrow C e t
    narrow e d (Rel i) p form le = tt
    narrow e d Box p form le = tt
    narrow e d (BLambda b) p form le = (omega (arith, words_plain e (λ i. names b (suc i)), p, le), narrow (Bind VBox e) (suc d) b (omega (arith, p)) form.1.0 (omega (arith, le)))
    narrow e d (BLetIn a b) p form le = (narrow e d a p form.1.0 (omega (arith, le)), narrow (Bind VBox e) (suc d) b (omega (arith, p)) form.1.1.0 (omega (arith, le)))
    narrow e d (BApp f a) p form le = (narrow e d f p form.1.0 (omega (arith, le)), narrow e d a p form.1.1.0 (omega (arith, le)))
    narrow e d (BConst k) p form le = tt
    narrow e d (BConstruct f c) p form le = tt
    narrow e d (BCase f s bs) p form le = (narrow e d s p form.1.0 (omega (arith, le)), branches_narrow e d bs p form.1.1.0 (omega (arith, le)))
    narrow e d (BFix i rargs bodies) p form le =
        (fix_words_few e d (length rargs) rargs bodies p form.0.1 le, defs_narrow (BindFix rargs bodies e) d bodies p form.1.0 le)

    branches_narrow : (e : ClosureEnv) (d : ℕ) (bs : BoxTerms) → plain e ≤ d → HasBoxFormTerms Fs bs → lambda_binders_terms d bs ≤ C → NarrowBranches C e bs
    branches_narrow e d Done p form le = tt
    branches_narrow e d (Next n b rest) p form le = (narrow (bind_all (box_values n) e) (n + d) b (omega (arith, plain_boxes n e, p)) form.0 (omega (arith, le)), branches_narrow e d rest p form.1 (omega (arith, le)))

    defs_narrow : (e : ClosureEnv) (d : ℕ) (bs : BoxTerms) → plain e ≤ d → HasBoxFormTerms Fs bs → lambda_binders_terms d bs ≤ C → NarrowDefs C e bs
    defs_narrow e d Done p form le = tt
    defs_narrow e d (Next m (BLambda b) rest) p form le =
        (narrow (Bind VBox e) (suc (m + d)) b (omega (arith, p)) form.0.1.0 (omega (arith, le)), defs_narrow e d rest p form.1 (omega (arith, le)))
    defs_narrow e d (Next m t rest) p form le = defs_narrow e d rest p form.1 (omega (arith, le))

-- the program that is brought into A-normal form is one that the translation takes
pub ready : (P : BoxProgram) → IsBoxProgram P → IsShallow P → CanBeConverted (shrunk_program P)
ready P form shallow =
    let S = shrunk_program P in
    let kept = shrunk_forms P form in
    let depths = shrunk_shallow P form depth_limit (constant_shallow (saturated_program P) shallow) (main_shallow (saturated_program P) shallow) in
    (data_kept S (to_anf S) refl (all_shallow S.constants depths.0) depths.1 kept.form kept.ordinary).0

program_captures : (P : BoxProgram) (C : ℕ) → IsBoxProgram P → IsShallow P → ((d : BoxConstant) → Has (saturated_program P).constants d → Narrow C Empty d.body) → Narrow C Empty (saturated_program P).main →
    ProgramCaptures (suc C) (to_anf (shrunk_program P))
program_captures P C form shallow constants main =
    let S = shrunk_program P in
    let r = ready P form shallow in
    let K = number_in S.constants in
    let fine : AreFine C S = shrunk_narrow C (saturated_program P) (passes_form P form).form constants main in
    record { constants = constants_capture S C K S.constants (λ d at. r.constants d.name d.body at) (λ d at. (fine.constants d at).narrow); main = code_few C S K S.main r.main fine.main.narrow }

binders_at : (cs : List BoxConstant) (d : BoxConstant) → Has cs d → lambda_binders 0 d.body ≤ constants_binders cs
binders_at [] d h = elim h [ ]
binders_at (c ∷ cs) d here = omega arith
binders_at (c ∷ cs) d (there h) = omega (arith, binders_at cs d h)

pub saturated_captures : SaturatedCapturesAreFew
saturated_captures P most form shallow le =
    let S = saturated_program P in
    let f = (passes_form P form).form in
    program_captures P most form shallow
    (λ d at. narrow S.families most Empty 0 d.body (omega arith) (ordered_body S.families S.constants f.constants d at).form (omega (arith, binders_at S.constants d at, le)))
    (narrow S.families most Empty 0 S.main (omega arith) f.main.form (omega (arith, le)))

-- words are those of the places under most binders and the arguments of constructors
pub words_captures : WordsBoundCaptures
words_captures P most form shallow le =
    let Q = prop_match_program P in
    let A = greatest_arguments Q.families in
    let D = most - A in
    let enough : most_depth Q + A ≤ most = omega (arith, (prop_match_program_sizes P).1, le) in
    let is : D + A ≡ most = omega (arith, enough) in
    subst (λ C. ProgramCaptures (suc C) (to_anf (shrunk_program P))) is
    (program_captures P (D + A) form shallow (λ d at. fits_narrow D A Empty (constant_fits Q d at) (omega (arith, enough))) (fits_narrow D A Empty (main_fits Q) (omega (arith, enough))))
