-- How many words the lambdas and fixpoints of a term take, in an environment of boxes.
use Rattle.std.proofs.Common.{◌≡◌, ℕ, zero, suc, ◌+◌, ◌-◌, ◌≤◌, sym, subst, ⊎_elim, arith}
use Rattle.std.proofs.lemmas.Bool.{cases_lt}
use Rattle.trees.specs.Tree.{Rel, Done, Next}
use Rattle.pc_terms.specs.declared.leaf.FamilyId.{FamilyId}
use Rattle.box_terms.specs.BoxSyntax.{BoxTerm, BoxTerms, BLambda, BLetIn, BApp, BConstruct, BCase, BFix}
use Rattle.lambda_box.specs.BoxProgram.{BoxConstant, BoxProgram, Has, box_apply}
use Rattle.lambda_box.specs.DataTerms.{greatest_arguments}
use Rattle.lambda_box.specs.ClosureEvaluation.{VBox, ClosureEnv, Empty, Bind, BindFix, box_values, bind_all, words, names, names_terms}
use Rattle.box_passes.specs.Saturate.{innermost, lambdas, saturate_program}
use Rattle.box_passes.proofs.Widths.{plain, words_plain, PlainFirst, first_none, first_one, function_words, FitsTerm, fits_rel, fits_box, fits_lambda, fits_let, fits_app, fits_const, fits_construct, fits_case, fits_fix, fits_function, FitsTerms, fits_done, fits_next}
use Rattle.box_passes.proofs.SaturatedWidths.{most_depth, main_fits, constant_fits}

module _ (C : ℕ) where
  -- each of them takes at most C words
  abbrev mutual
    pub Narrow : ClosureEnv → BoxTerm → Type 0
    Narrow e (BLambda b) = (words e (λ i. names b (suc i)) ≤ C) × Narrow (Bind VBox e) b
    Narrow e (BLetIn a b) = Narrow e a × Narrow (Bind VBox e) b
    Narrow e (BApp f a) = Narrow e f × Narrow e a
    Narrow e (BCase f s bs) = Narrow e s × NarrowBranches e bs
    Narrow e (BFix i rargs bodies) = (words e (λ i. names_terms bodies i) ≤ C) × NarrowDefs (BindFix rargs bodies e) bodies
    Narrow e t = Unit {0}

    pub NarrowBranches : ClosureEnv → BoxTerms → Type 0
    NarrowBranches e Done = Unit {0}
    NarrowBranches e (Next n b rest) = Narrow (bind_all (box_values n) e) b × NarrowBranches e rest

    -- the lambda of a definition makes no closure of its own
    pub NarrowDefs : ClosureEnv → BoxTerms → Type 0
    NarrowDefs e Done = Unit {0}
    NarrowDefs e (Next m (BLambda b) rest) = Narrow (Bind VBox e) b × NarrowDefs e rest
    NarrowDefs e (Next m b rest) = NarrowDefs e rest

  def_narrow : (n : ℕ) (e : ClosureEnv) (t : BoxTerm) (ts : BoxTerms) → Narrow e t → NarrowDefs e ts → NarrowDefs e (Next n t ts)
  def_narrow n e (BLambda b) ts h hs = (h.1, hs)
  def_narrow n e t ts h hs = hs

  narrow_spine : (e : ClosureEnv) (n : ℕ) (f : BoxTerm) → Narrow e f → Narrow e (box_apply f (innermost n))
  narrow_spine e zero f h = h
  narrow_spine e (suc n) f h = narrow_spine e n (BApp f (Rel n)) (h, tt)

  -- a constructor's function
  narrow_function : (e : ClosureEnv) (m n : ℕ) (f : FamilyId) (c : ℕ) → n ≤ C → PlainFirst (n - m) e → Narrow e (lambdas m (box_apply (BConstruct f c) (innermost n)))
  narrow_function e zero n f c l p = narrow_spine e n (BConstruct f c) tt
  narrow_function e (suc m) n f c l p =
      let few : words e (λ i. names (lambdas m (box_apply (BConstruct f c) (innermost n))) (suc i)) ≤ C = omega (arith, function_words 0 0 m n f c p) in (
        few,
        ⊎_elim
            (λ lt. let q : suc (n - suc m) ≡ n - m = omega arith in narrow_function (Bind VBox e) m n f c l (subst (λ k. PlainFirst k (Bind VBox e)) q (first_one p)))
            (λ le. let q : 0 ≡ n - m = omega arith in narrow_function (Bind VBox e) m n f c l (subst (λ k. PlainFirst k (Bind VBox e)) q first_none))
            (cases_lt m n),
      )

pub plain_boxes : (n : ℕ) (e : ClosureEnv) → plain (bind_all (box_values n) e) ≡ n + plain e
plain_boxes zero e = omega arith
plain_boxes (suc n) e = omega (arith, plain_boxes n e)

module _ (D A : ℕ) where
  mutual
    pub fits_narrow : {d : ℕ} {t : BoxTerm} (e : ClosureEnv) → FitsTerm A d t → plain e + d ≤ D → Narrow (D + A) e t
    fits_narrow e fits_rel l = tt
    fits_narrow e fits_box l = tt
    fits_narrow e (fits_lambda {b = b} d eq h) l = (omega (arith, words_plain e (λ i. names b (suc i))), fits_narrow (Bind VBox e) h (omega arith))
    fits_narrow e (fits_let d eq h g) l = (fits_narrow e h l, fits_narrow (Bind VBox e) g (omega arith))
    fits_narrow e (fits_app h g) l = (fits_narrow e h l, fits_narrow e g l)
    fits_narrow e fits_const l = tt
    fits_narrow e fits_construct l = tt
    fits_narrow e (fits_case h hs) l = (fits_narrow e h l, branches_narrow e hs l)
    fits_narrow e (fits_fix {rargs = rargs} {bs = bs} hs) l = (omega (arith, words_plain e (λ i. names_terms bs i)), defs_narrow (BindFix rargs bs e) hs l)
    fits_narrow e (fits_function m n f c le few eq) l =
        let z : 0 ≡ n - suc m = omega arith in
        subst (λ t. Narrow (D + A) e t) (sym eq) (narrow_function (D + A) e (suc m) n f c (omega arith) (subst (λ k. PlainFirst k e) z first_none))

    branches_narrow : {d : ℕ} {bs : BoxTerms} (e : ClosureEnv) → FitsTerms A d bs → plain e + d ≤ D → NarrowBranches (D + A) e bs
    branches_narrow e fits_done l = tt
    branches_narrow e (fits_next {n = n} d eq h hs) l = (fits_narrow (bind_all (box_values n) e) h (omega (arith, plain_boxes n e)), branches_narrow e hs l)

    defs_narrow : {d : ℕ} {bs : BoxTerms} (e : ClosureEnv) → FitsTerms A d bs → plain e + d ≤ D → NarrowDefs (D + A) e bs
    defs_narrow e fits_done l = tt
    defs_narrow e (fits_next {n = n} {t = t} {ts = ts} d eq h hs) l = def_narrow (D + A) n e t ts (fits_narrow e h (omega arith)) (defs_narrow e hs l)

-- of the saturated program, of which no term takes more words than the program before has
module _ (P : BoxProgram) where
  abbrev pub most_words : ℕ
  most_words = most_depth P + greatest_arguments P.families

  pub main_narrow : Narrow most_words Empty (saturate_program P).main
  main_narrow = fits_narrow (most_depth P) (greatest_arguments P.families) Empty (main_fits P) (omega arith)

  pub constant_narrow : (d : BoxConstant) → Has (saturate_program P).constants d → Narrow most_words Empty d.body
  constant_narrow d at = fits_narrow (most_depth P) (greatest_arguments P.families) Empty (constant_fits P d at) (omega arith)
