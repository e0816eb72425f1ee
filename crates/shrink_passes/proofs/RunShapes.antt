-- What an evaluation with environments of box and of a lambda is, and small facts on values and terms.
use Rattle.std.proofs.Common.{◌≡◌, ℕ, zero, suc, ◌+◌, ◌≤◌, Bool, true, false, List, [], ◌∷◌, ◌++◌, refl, sym, ap, ◌∙◌, arith}
use Rattle.std.proofs.lemmas.Bool.{false≢true}
use Rattle.std.proofs.Math.Bool.{or-false}
use mathlib.Core.Path.{fun_ext}
use Rattle.trees.specs.Tree.{Rel}
use Rattle.trees.specs.Parallel.{over, overs}
use Rattle.box_terms.specs.BoxSyntax.{BoxTerm, BoxTerms, Box, BLambda, BLetIn, BApp, BConst, BConstruct, BCase, BFix}
use Rattle.lambda_box.specs.BoxProgram.{BoxProgram}
use Rattle.lambda_box.specs.ClosureEvaluation.{names, ClosureValue, VBox, VClosure, VFix, ClosureEnv, Empty, closure_words, Counts, nothing, block, ClosureRun, run_box, run_value, run_definition, run_lambda, run_fix, run_constant, run_let, run_app, run_box_app, run_fix_app, run_fix_box, run_construct, run_match, run_only, run_head, run_arg}
use Rattle.box_passes.specs.Saturate.{lambdas}
use Rattle.shrink_passes.specs.DropParams.{is_box, box_at}
use Rattle.shrink_passes.specs.ShrinkLaws.{AreNoMore}

abbrev pub closure_env : ClosureValue → ClosureEnv
closure_env (VClosure e b) = e
closure_env v = Empty

abbrev pub closure_body : ClosureValue → BoxTerm
closure_body (VClosure e b) = b
closure_body v = Box

pub block_less : (n m : ℕ) → n ≤ m → AreNoMore (block n) (block m)
block_less n m l = record { contractions = omega arith; matches = refl; blocks = omega arith; greatest = omega arith }

-- box gives box at no cost
pub record RunsBox (v : ClosureValue) (c : Counts) : Type 0 where
  pub is : v ≡ VBox
  pub free : c ≡ nothing

pub box_runs : {P : BoxProgram} {e : ClosureEnv} {t : BoxTerm} {v : ClosureValue} {c : Counts} → ClosureRun P e t v c → t ≡ Box → RunsBox v c
box_runs run_box q = record { is = refl; free = refl }
box_runs (run_value f) q = absurd (cc)
box_runs (run_definition f) q = absurd (cc)
box_runs run_lambda q = absurd (cc)
box_runs run_fix q = absurd (cc)
box_runs (run_constant k r) q = absurd (cc)
box_runs (run_let r s) q = absurd (cc)
box_runs (run_app r s t) q = absurd (cc)
box_runs (run_box_app r s) q = absurd (cc)
box_runs (run_fix_app r s at t) q = absurd (cc)
box_runs (run_fix_box r s at) q = absurd (cc)
box_runs (run_construct k at l run_head) q = absurd (cc)
box_runs (run_construct k at l (run_arg r s)) q = absurd (cc)
box_runs (run_match k p r at s) q = absurd (cc)
box_runs (run_only k p r s) q = absurd (cc)

pub record RunsLambda (e : ClosureEnv) (b : BoxTerm) (v : ClosureValue) (c : Counts) : Type 0 where
  pub is : v ≡ VClosure e b
  pub made : c ≡ block (closure_words e b)

abbrev pub lambda_body : BoxTerm → BoxTerm
lambda_body (BLambda b) = b
lambda_body t = Box

pub lambda_runs : {P : BoxProgram} {e : ClosureEnv} {t b : BoxTerm} {v : ClosureValue} {c : Counts} → ClosureRun P e t v c → t ≡ BLambda b → RunsLambda e b v c
lambda_runs run_box q = absurd (cc)
lambda_runs (run_value f) q = absurd (cc)
lambda_runs (run_definition f) q = absurd (cc)
lambda_runs {e = e} run_lambda q = let p = ap lambda_body q in record { is = ap (VClosure e) p; made = ap (λ b. block (closure_words e b)) p }
lambda_runs run_fix q = absurd (cc)
lambda_runs (run_constant k r) q = absurd (cc)
lambda_runs (run_let r s) q = absurd (cc)
lambda_runs (run_app r s t) q = absurd (cc)
lambda_runs (run_box_app r s) q = absurd (cc)
lambda_runs (run_fix_app r s at t) q = absurd (cc)
lambda_runs (run_fix_box r s at) q = absurd (cc)
lambda_runs (run_construct k at l run_head) q = absurd (cc)
lambda_runs (run_construct k at l (run_arg r s)) q = absurd (cc)
lambda_runs (run_match k p r at s) q = absurd (cc)
lambda_runs (run_only k p r s) q = absurd (cc)

pub over_rel : ◌≡◌ {A = ℕ → BoxTerm} (over Rel) Rel
over_rel = fun_ext each
  where
    each : (i : ℕ) → ◌≡◌ {A = BoxTerm} (over Rel i) (Rel i)
    each zero = refl
    each (suc i) = refl

pub box_is_box : (t : BoxTerm) → is_box t ≡ true → t ≡ Box
box_is_box Box e = refl
box_is_box (Rel i) e = absurd (cc)
box_is_box (BLambda b) e = absurd (cc)
box_is_box (BLetIn b t) e = absurd (cc)
box_is_box (BApp f a) e = absurd (cc)
box_is_box (BConst k) e = absurd (cc)
box_is_box (BConstruct f c) e = absurd (cc)
box_is_box (BCase f s bs) e = absurd (cc)
box_is_box (BFix i rargs bodies) e = absurd (cc)

pub names_lambdas : (n : ℕ) (t : BoxTerm) (i : ℕ) → names (lambdas n t) i ≡ names t (n + i)
names_lambdas zero t i = let q : i ≡ 0 + i = omega arith in ap (names t) q
names_lambdas (suc n) t i = or-false (names (lambdas n t) (1 + i)) ∙ names_lambdas n t (1 + i) ∙ (let q : n + (1 + i) ≡ suc n + i = omega arith in ap (names t) q)

pub closure_not_box : {e : ClosureEnv} {b : BoxTerm} → VBox ≡ VClosure e b → ⊥
closure_not_box e = cc

pub closure_not_fix : {e d : ClosureEnv} {b : BoxTerm} {i : ℕ} {rargs : List ℕ} {ts : BoxTerms} → VFix d i rargs ts ≡ VClosure e b → ⊥
closure_not_fix e = cc

pub not_true : {x : Bool} → x ≡ false → x ≡ true → ⊥
not_true {x} e g = false≢true (sym e ∙ g)

pub overs_rel_same : (n : ℕ) → ◌≡◌ {A = ℕ → BoxTerm} (overs n Rel) Rel
overs_rel_same zero = refl
overs_rel_same (suc n) = ap over (overs_rel_same n) ∙ over_rel

pub box_further : (n : ℕ) (xs ys : List BoxTerm) → box_at n xs ≡ true → box_at n (xs ++ ys) ≡ true
box_further n [] ys e = absurd (cc)
box_further zero (x ∷ xs) ys e = e
box_further (suc n) (x ∷ xs) ys e = box_further n xs ys e
