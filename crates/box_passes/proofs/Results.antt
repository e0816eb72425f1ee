-- What evaluation gives evaluates to itself, and to nothing else.
use Rattle.std.proofs.Common.{◌≡◌, ℕ, refl, sym, subst}
use Rattle.box_terms.specs.BoxSyntax.{BoxTerm, BApp}
use Rattle.lambda_box.specs.BoxProgram.{BoxProgram}
use Rattle.lambda_box.specs.BoxEvaluation.{IsBoxValue, box_is, BoxTakesMore, BoxEvaluates, value, constant, let_in, beta, box_app, extend, unfold_fix, enter, enter_only}
use Rattle.lambda_box.proofs.Determined.{more_or_unfolds, lambda_takes_no_more, box_takes_no_more}

pub data IsResult (P : BoxProgram) : BoxTerm → Type 0 where
  result_value : {v : BoxTerm} → IsBoxValue v → IsResult P v
  result_more : {g v : BoxTerm} → IsResult P g → IsResult P v → BoxTakesMore P g → IsResult P (BApp g v)

pub result_of : {P : BoxProgram} {t w : BoxTerm} {n m : ℕ} → BoxEvaluates P t w n m → IsResult P w
result_of (value i) = result_value i
result_of (constant k d) = result_of d
result_of (let_in d1 d2) = result_of d2
result_of (beta d1 d2 d3) = result_of d3
result_of (box_app d1 d2) = result_value box_is
result_of (extend d1 d2 m) = result_more (result_of d1) (result_of d2) m
result_of (unfold_fix d1 d2 u d3) = result_of d3
result_of (enter d1 c at d2) = result_of d2
result_of (enter_only F p d1 d2) = result_of d2

pub record Itself (P : BoxProgram) (w : BoxTerm) : Type 0 where
  pub nodes : ℕ
  pub evaluates : BoxEvaluates P w w nodes 0

pub itself : {P : BoxProgram} {w : BoxTerm} → IsResult P w → Itself P w
itself (result_value i) = record { nodes = 1; evaluates = value i }
itself (result_more h g m) = let a = itself h in let b = itself g in record { nodes = _; evaluates = extend a.evaluates b.evaluates m }

pub same : {P : BoxProgram} {w u : BoxTerm} {n m : ℕ} → IsResult P w → BoxEvaluates P w u n m → u ≡ w
same (result_value i) (value j) = refl
same (result_value i) (constant k d) = elim i [ ]
same (result_value i) (let_in d1 d2) = elim i [ ]
same (result_value i) (beta d1 d2 d3) = elim i [ ]
same (result_value i) (box_app d1 d2) = elim i [ ]
same (result_value i) (extend d1 d2 m) = elim i [ ]
same (result_value i) (unfold_fix d1 d2 u d3) = elim i [ ]
same (result_value i) (enter d1 c at d2) = elim i [ ]
same (result_value i) (enter_only F p d1 d2) = elim i [ ]
same (result_more h g m) (value j) = elim j [ ]
same {P} (result_more h g m) (beta d1 d2 d3) = absurd (lambda_takes_no_more (subst (λ t. BoxTakesMore P t) (sym (same h d1)) m))
same {P} (result_more h g m) (box_app d1 d2) = absurd (box_takes_no_more (subst (λ t. BoxTakesMore P t) (sym (same h d1)) m))
same (result_more h g m) (extend d1 d2 m') = λ i. BApp (same h d1 i) (same g d2 i)
same {P} (result_more h g m) (unfold_fix d1 d2 u d3) = absurd (more_or_unfolds (subst (λ t. BoxTakesMore P t) (sym (same h d1)) m) u)
