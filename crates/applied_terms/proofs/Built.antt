-- Constructors applied to some number of terms, and terms to which a parameter of a constructor is applied next.
use Rattle.std.proofs.Common.{◌≡◌, ℕ, zero, suc, ◌+◌, ◌<◌, ◌≤◌, List, [], ◌∷◌, ◌++◌, length, refl, sym, ap, ◌∙◌, subst, arith, length-append}
use Rattle.trees.specs.Parallel.{rename, substitute}
use Rattle.pc_terms.specs.declared.leaf.FamilyId.{FamilyId}
use Rattle.box_terms.specs.BoxSyntax.{BoxTerm, BoxTerms, Box, BLambda, BApp, BConstruct, BFix}
use Rattle.lambda_box.specs.BoxProgram.{BoxFamily, BoxProgram, KeepsBoxFamily, box_apply}
use Rattle.lambda_box.specs.BoxEvaluation.{BoxEvaluates, value, constant, let_in, beta, box_app, extend, unfold_fix, enter, enter_only, BoxUnfolds, unfolds}
use Rattle.lambda_box.proofs.Spines.{head_of, head_apply, fix_head, construct_not_fix, apply_last}

-- the term is constructor c of the family, applied to n terms
pub data Built (f : FamilyId) (c : ℕ) : ℕ → BoxTerm → Type 0 where
  built_head : Built f c zero (BConstruct f c)
  built_more : {n : ℕ} {t a : BoxTerm} → Built f c n t → Built f c (suc n) (BApp t a)

pub built_renamed : {f : FamilyId} {c n : ℕ} {t : BoxTerm} (r : ℕ → ℕ) → Built f c n t → Built f c n (rename r t)
built_renamed r built_head = built_head
built_renamed r (built_more b) = built_more (built_renamed r b)

pub built_put : {f : FamilyId} {c n : ℕ} {t : BoxTerm} (s : ℕ → BoxTerm) → Built f c n t → Built f c n (substitute s t)
built_put s built_head = built_head
built_put s (built_more b) = built_more (built_put s b)

pub built_is : {f : FamilyId} {c n : ℕ} {t : BoxTerm} → Built f c n t → head_of t ≡ BConstruct f c
built_is built_head = refl
built_is (built_more b) = built_is b

-- with a list of further arguments
pub built_with : {f : FamilyId} {c n : ℕ} {t : BoxTerm} (xs : List BoxTerm) → Built f c n t → Built f c (n + length xs) (box_apply t xs)
built_with {f} {c} {n} {t} [] b = let z : n ≡ n + 0 = omega arith in subst (λ m. Built f c m t) z b
built_with {f} {c} {n} {t} (x ∷ xs) b = let z : suc n + length xs ≡ n + suc (length xs) = omega arith in subst (λ m. Built f c m (box_apply (BApp t x) xs)) z (built_with xs (built_more b))

pub built_of : {f : FamilyId} {c : ℕ} {t : BoxTerm} (xs : List BoxTerm) → t ≡ box_apply (BConstruct f c) xs → Built f c (length xs) t
built_of {f} {c} {t} xs e =
    let z : 0 + length xs ≡ length xs = omega arith in
    subst (λ t. Built f c (length xs) t) (sym e) (subst (λ m. Built f c m (box_apply (BConstruct f c) xs)) z (built_with xs built_head))

-- its arguments as a list
pub record BuiltList (f : FamilyId) (c n : ℕ) (t : BoxTerm) : Type 0 where
  pub arguments : List BoxTerm
  pub count : length arguments ≡ n
  pub is : t ≡ box_apply (BConstruct f c) arguments

pub built_list : {f : FamilyId} {c n : ℕ} {t : BoxTerm} → Built f c n t → BuiltList f c n t
built_list built_head = record { arguments = []; count = refl; is = refl }
built_list {f} {c} (built_more {n = n} {t = t} {a = a} b) =
    let r = built_list b in
    record {
      arguments = r.arguments ++ a ∷ [];
      count = omega (arith, length-append r.arguments (a ∷ []), r.count);
      is = ap (λ g. BApp g a) r.is ∙ sym (apply_last (BConstruct f c) r.arguments a);
    }

-- its constructor and its number of arguments are determined
pub record SameBuilt (f g : FamilyId) (c d n m : ℕ) : Type 0 where
  pub family : f ≡ g
  pub ctor : c ≡ d
  pub number : n ≡ m

pub built_same : {f g : FamilyId} {c d n m : ℕ} {t : BoxTerm} → Built f c n t → Built g d m t → SameBuilt f g c d n m
built_same built_head built_head = record { family = refl; ctor = refl; number = refl }
built_same (built_more b) (built_more b') = let r = built_same b b' in record { family = r.family; ctor = r.ctor; number = ap suc r.number }

-- so it is with its value, and it is neither box, nor a lambda, nor a fixpoint

pub built_not_box : {f : FamilyId} {c n : ℕ} → Built f c n Box → ⊥
built_not_box b = elim b [ ]

pub built_not_lambda : {f : FamilyId} {c n : ℕ} {b : BoxTerm} → Built f c n (BLambda b) → ⊥
built_not_lambda b = elim b [ ]

pub built_not_unfolds : {f : FamilyId} {c n : ℕ} {g v u : BoxTerm} → Built f c n g → BoxUnfolds g v u → ⊥
built_not_unfolds b (unfolds i rargs bodies xs r l at e) = construct_not_fix (sym (built_is b) ∙ fix_head xs e)

pub built_value : {P : BoxProgram} {f : FamilyId} {c k : ℕ} {t w : BoxTerm} {n m : ℕ} → BoxEvaluates P t w n m → Built f c k t → Built f c k w
built_value (value i) b = b
built_value (constant k e) b = elim b [ ]
built_value (let_in e e') b = elim b [ ]
built_value (beta e e' e'') (built_more {n = j} b) = absurd (built_not_lambda (built_value {k = j} e b))
built_value (box_app e e') (built_more {n = j} b) = absurd (built_not_box (built_value {k = j} e b))
built_value (extend e e' m) (built_more {n = j} b) = built_more (built_value {k = j} e b)
built_value (unfold_fix e e' u e'') (built_more {n = j} b) = absurd (built_not_unfolds (built_value {k = j} e b) u)
built_value (enter e c at e') b = elim b [ ]
built_value (enter_only k p e e') b = elim b [ ]

-- one more argument of the term is a parameter
pub record WantsParameter (P : BoxProgram) (t : BoxTerm) : Type 0 where
  pub family : FamilyId
  pub ctor : ℕ
  pub number : ℕ
  pub built : Built family ctor number t
  pub declared : BoxFamily
  pub kept : KeepsBoxFamily P family declared
  pub below : number < declared.params

pub wants_renamed : {P : BoxProgram} {t : BoxTerm} (r : ℕ → ℕ) → WantsParameter P t → WantsParameter P (rename r t)
wants_renamed r w = record { family = w.family; ctor = w.ctor; number = w.number; built = built_renamed r w.built; declared = w.declared; kept = w.kept; below = w.below }

pub wants_put : {P : BoxProgram} {t : BoxTerm} (s : ℕ → BoxTerm) → WantsParameter P t → WantsParameter P (substitute s t)
wants_put s w = record { family = w.family; ctor = w.ctor; number = w.number; built = built_put s w.built; declared = w.declared; kept = w.kept; below = w.below }

-- a fixpoint, applied, takes no parameter
pub fix_wants_none : {P : BoxProgram} (i : ℕ) (rargs : List ℕ) (bodies : BoxTerms) (xs : List BoxTerm) → WantsParameter P (box_apply (BFix i rargs bodies) xs) → ⊥
fix_wants_none i rargs bodies xs w = construct_not_fix (sym (built_is w.built) ∙ head_apply xs (BFix i rargs bodies))

-- nor does a constructor with all its parameters
pub full_wants_none : {P : BoxProgram} {f : FamilyId} {c n : ℕ} {F : BoxFamily} {t : BoxTerm} → ((g : FamilyId) (G H : BoxFamily) → KeepsBoxFamily P g G → KeepsBoxFamily P g H → G ≡ H) →
    KeepsBoxFamily P f F → F.params ≤ n → Built f c n t → (xs : List BoxTerm) → WantsParameter P (box_apply t xs) → ⊥
full_wants_none {P} {F = F} unique kept le b xs w =
    let r = built_same w.built (built_with xs b) in
    let one = ap (λ (G : BoxFamily). G.params) (unique _ w.declared F (w.kept) (subst (λ g. KeepsBoxFamily P g F) (sym r.family) kept)) in
    omega (arith, r.number, one, w.below)
