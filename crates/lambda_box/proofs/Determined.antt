-- Evaluation by substitution has one value, one number of nodes and one of matches; and a value is read as one tree of data.
use Rattle.std.proofs.Common.{◌≡◌, ℕ, suc, ◌+◌, true, List, [], ◌∷◌, ◌++◌, length, drop, refl, sym, ap, ◌∙◌, subst, arith, slice_get}
use Rattle.std.proofs.Math.Seq.{drop-append_seam}
use Rattle.std.proofs.lemmas.Option.{same_Some}
use Rattle.trees.specs.Tree.{Rel, Done, term_at}
use Rattle.trees.specs.Parallel.{put, put_all, substitute}
use Rattle.pc_terms.specs.declared.leaf.Name.{Name}
use Rattle.pc_terms.specs.declared.leaf.FamilyId.{FamilyId}
use Rattle.box_terms.specs.BoxSyntax.{BoxTerm, BoxTerms, Box, BLambda, BApp, BConstruct, BFix}
use Rattle.lambda_box.specs.BoxProgram.{BoxFamily, BoxProgram, KeepsBoxConstant, KeepsBoxFamily, box_apply}
use Rattle.lambda_box.specs.BoxEvaluation.{IsBoxValue, IsBoxConstructor, is_box_constructor, BoxTakesMore, constructor, fixpoint, box_unfolded, BoxUnfolds, unfolds, BoxEvaluates, value, constant, let_in, beta, box_app, extend, unfold_fix, enter, enter_only}
use Rattle.lambda_box.specs.BoxForm.{IsBoxProgram}
use Rattle.lambda_box.specs.BoxData.{Data, BoxReads, box_reads, BoxReadsAll, no_box_field, box_field}
use Rattle.lambda_box.specs.Laws.{BoxEvaluationIsDetermined, BoxReadingIsDetermined}
use Rattle.lambda_box.proofs.Spines.{constructor_head, constructor_arguments, fix_head, fix_arguments}
use Rattle.lambda_box.proofs.Families.{one_of_name, unique_family}

-- no name stands for two constants, and none for two families
pub record OneBoxEach (P : BoxProgram) : Type 0 where
  pub bodies : (k : Name) (b b' : BoxTerm) → KeepsBoxConstant P k b → KeepsBoxConstant P k b' → b ≡ b'
  pub families : (f : FamilyId) (F G : BoxFamily) → KeepsBoxFamily P f F → KeepsBoxFamily P f G → F ≡ G

pub one_box_each : (P : BoxProgram) → IsBoxProgram P → OneBoxEach P
one_box_each P h = record {
  bodies = λ k b b' m m'. ap (λ c. c.body) (one_of_name (λ c. c.name) P.constants h.distinct_constants m m' refl);
  families = unique_family P h;
}

-- parts of heads

abbrev constructor_of : BoxTerm → ℕ
constructor_of (BConstruct f c) = c
constructor_of t = 0

abbrev body_of : BoxTerm → BoxTerm
body_of (BLambda b) = b
body_of t = t

abbrev index_of : BoxTerm → ℕ
index_of (BFix i rargs bodies) = i
index_of t = 0

abbrev rargs_of : BoxTerm → List ℕ
rargs_of (BFix i rargs bodies) = rargs
rargs_of t = []

abbrev bodies_of : BoxTerm → BoxTerms
bodies_of (BFix i rargs bodies) = bodies
bodies_of t = Done

pub one_constructor : {P : BoxProgram} → OneBoxEach P → {f : FamilyId} {c d : ℕ} {v : BoxTerm} {ps qs xs ys : List BoxTerm} →
    IsBoxConstructor P f c v ps xs → IsBoxConstructor P f d v qs ys → (c ≡ d) × (xs ≡ ys)
one_constructor u {f} {c} {d} {v} {ps} {qs} {xs} {ys} (is_box_constructor {F = F} k o i p a e) (is_box_constructor {F = G} k' o' i' p' a' e') =
    (ap constructor_of heads, sym (drop-append_seam ps xs) ∙ (λ i. drop (long i) (spines i)) ∙ drop-append_seam qs ys)
  where
    heads : BConstruct f c ≡ BConstruct f d
    heads = sym (constructor_head (ps ++ xs) e) ∙ constructor_head (qs ++ ys) e'

    spines : ps ++ xs ≡ qs ++ ys
    spines = sym (constructor_arguments f c (ps ++ xs) e) ∙ constructor_arguments f d (qs ++ ys) e'

    long : length ps ≡ length qs
    long = p ∙ ap (λ F. F.params) (u.families f F G k k') ∙ sym p'

pub lambda_takes_no_more : {P : BoxProgram} {b : BoxTerm} → BoxTakesMore P (BLambda b) → ⊥
lambda_takes_no_more (constructor f c xs k i l e) = let h = constructor_head {f = f} {c = c} xs e in cc
lambda_takes_no_more (fixpoint i rargs bodies xs r l e) = let h = fix_head {i = i} {rargs = rargs} {bodies = bodies} xs e in cc

pub box_takes_no_more : {P : BoxProgram} → BoxTakesMore P Box → ⊥
box_takes_no_more (constructor f c xs k i l e) = let h = constructor_head {f = f} {c = c} xs e in cc
box_takes_no_more (fixpoint i rargs bodies xs r l e) = let h = fix_head {i = i} {rargs = rargs} {bodies = bodies} xs e in cc

pub lambda_stays : {b v u : BoxTerm} → BoxUnfolds (BLambda b) v u → ⊥
lambda_stays (unfolds i rargs bodies xs r l b e) = let h = fix_head {i = i} {rargs = rargs} {bodies = bodies} xs e in cc

pub box_stays : {v u : BoxTerm} → BoxUnfolds Box v u → ⊥
box_stays (unfolds i rargs bodies xs r l b e) = let h = fix_head {i = i} {rargs = rargs} {bodies = bodies} xs e in cc

pub more_or_unfolds : {P : BoxProgram} {g v u : BoxTerm} → BoxTakesMore P g → BoxUnfolds g v u → ⊥
more_or_unfolds (constructor f c xs k j m e) (unfolds i rargs bodies ys r l b e') =
    let h = sym (constructor_head {f = f} {c = c} xs e) ∙ fix_head {i = i} {rargs = rargs} {bodies = bodies} ys e' in cc
more_or_unfolds (fixpoint i rargs bodies xs r l e) (unfolds i' rargs' bodies' ys r' l' b e') =
    let h = sym (fix_head {i = i} {rargs = rargs} {bodies = bodies} xs e) ∙ fix_head {i = i'} {rargs = rargs'} {bodies = bodies'} ys e' in
    let spines = sym (fix_arguments i rargs bodies xs e) ∙ fix_arguments i' rargs' bodies' ys e' in
    let longs = ap length spines in
    let rarg = same_Some _ _ (sym r ∙ (λ j. slice_get (rargs_of (h j)) (index_of (h j))) ∙ r') in
    omega arith

pub one_unfolding : {g v u w : BoxTerm} → BoxUnfolds g v u → BoxUnfolds g v w → u ≡ w
one_unfolding {v = v} (unfolds i rargs bodies xs {body = b₁} r l b e) (unfolds i' rargs' bodies' ys {body = b₂} r' l' b' e') =
    let h = sym (fix_head {i = i} {rargs = rargs} {bodies = bodies} xs e) ∙ fix_head {i = i'} {rargs = rargs'} {bodies = bodies'} ys e' in
    let spines = sym (fix_arguments i rargs bodies xs e) ∙ fix_arguments i' rargs' bodies' ys e' in
    let body = same_Some _ _ (sym b ∙ (λ j. term_at (bodies_of (h j)) (index_of (h j))) ∙ b') in
    λ j. BApp (box_apply (box_unfolded (rargs_of (h j)) (bodies_of (h j)) ((body j).1)) (spines j)) v

value_only : {P : BoxProgram} {t w : BoxTerm} {n m : ℕ} → IsBoxValue t → BoxEvaluates P t w n m → (t ≡ w) × (1 ≡ n) × (0 ≡ m)
value_only i (value j) = (refl, refl, refl)
value_only i (constant k e) = elim i [ ]
value_only i (let_in e e') = elim i [ ]
value_only i (beta e e' e'') = elim i [ ]
value_only i (box_app e e') = elim i [ ]
value_only i (extend e e' h) = elim i [ ]
value_only i (unfold_fix e e' h e'') = elim i [ ]
value_only i (enter e h b e') = elim i [ ]
value_only i (enter_only k p e e') = elim i [ ]

-- the sums of two and of three counts
two : {n n' m m' : ℕ} → n ≡ m → n' ≡ m' → suc (n + n') ≡ suc (m + m')
two p q = omega arith

two_only : {n n' m m' : ℕ} → n ≡ m → n' ≡ m' → n + n' ≡ m + m'
two_only p q = omega arith

three : {n n' n'' m m' m'' : ℕ} → n ≡ m → n' ≡ m' → n'' ≡ m'' → suc (n + n' + n'') ≡ suc (m + m' + m'')
three p q r = omega arith

three_only : {n n' n'' m m' m'' : ℕ} → n ≡ m → n' ≡ m' → n'' ≡ m'' → n + n' + n'' ≡ m + m' + m''
three_only p q r = omega arith

pub different : {P : BoxProgram} → OneBoxEach P → {f : FamilyId} {F : BoxFamily} {c : ℕ} {v : BoxTerm} {ps xs : List BoxTerm} → IsBoxConstructor P f c v ps xs → KeepsBoxFamily P f F →
    F.propositional ≡ true → ⊥
different u {f} {F} (is_box_constructor {F = G} k o i p a e) k' q = let same = ap (λ F. F.propositional) (u.families f G F k k') in cc

pub determined : {P : BoxProgram} → OneBoxEach P → {t v w : BoxTerm} {n m a b : ℕ} → BoxEvaluates P t v n a → BoxEvaluates P t w m b → (v ≡ w) × (n ≡ m) × (a ≡ b)
determined u (value i) e = value_only i e
determined u (constant k e) (value i) = elim i [ ]
determined {P} u (constant {k = name} {b = b} k e) (constant {n = m} {m = a} {b = b'} {w = w} k' e') =
    let r = determined u e (subst (λ b. BoxEvaluates P b w m a) (u.bodies name b' b k' k) e') in (r.0, ap suc r.1, r.2)
determined u (let_in e f) (value i) = elim i [ ]
determined {P} u (let_in {t = t} e f) (let_in {w = w} {n' = m} {m' = a} e' f') =
    let r = determined u e e' in
    let q = determined u f (subst (λ v. BoxEvaluates P (substitute (put v) t) w m a) (sym r.0) f') in
    (q.0, two r.1 q.1, two_only r.2 q.2)
determined u (beta e f g) (value i) = elim i [ ]
determined {P} u (beta e f g) (beta {w = w} {n'' = k} {m'' = a} e' f' g') =
    let r = determined u e e' in let q = determined u f f' in
    let s = determined u g (subst (λ t. BoxEvaluates P t w k a) (λ i. substitute (put (sym q.0 i)) (body_of (sym r.0 i))) g') in
    (s.0, three r.1 q.1 s.1, three_only r.2 q.2 s.2)
determined u (beta e f g) (box_app e' f') = let r = determined u e e' in let p = r.0 in absurd (cc)
determined {P} u (beta e f g) (extend e' f' h) = absurd (lambda_takes_no_more (subst (λ g. BoxTakesMore P g) (sym (determined u e e').0) h))
determined u (beta e f g) (unfold_fix {v = v} {u = x} e' f' h g') = absurd (lambda_stays (subst (λ g. BoxUnfolds g v x) (sym (determined u e e').0) h))
determined u (box_app e f) (value i) = elim i [ ]
determined u (box_app e f) (beta e' f' g') = let r = determined u e e' in let p = r.0 in absurd (cc)
determined u (box_app e f) (box_app e' f') = let r = determined u e e' in let q = determined u f f' in (refl, two r.1 q.1, two_only r.2 q.2)
determined {P} u (box_app e f) (extend e' f' h) = absurd (box_takes_no_more (subst (λ g. BoxTakesMore P g) (sym (determined u e e').0) h))
determined u (box_app e f) (unfold_fix {v = v} {u = x} e' f' h g') = absurd (box_stays (subst (λ g. BoxUnfolds g v x) (sym (determined u e e').0) h))
determined u (extend e f h) (value i) = elim i [ ]
determined {P} u (extend e f h) (beta e' f' g') = absurd (lambda_takes_no_more (subst (λ g. BoxTakesMore P g) (determined u e e').0 h))
determined {P} u (extend e f h) (box_app e' f') = absurd (box_takes_no_more (subst (λ g. BoxTakesMore P g) (determined u e e').0 h))
determined u (extend e f h) (extend e' f' h') =
    let r = determined u e e' in let q = determined u f f' in
    ((λ i. BApp (r.0 i) (q.0 i)), two r.1 q.1, two_only r.2 q.2)
determined {P} u (extend e f h) (unfold_fix e' f' h' g') = absurd (more_or_unfolds (subst (λ g. BoxTakesMore P g) (determined u e e').0 h) h')
determined u (unfold_fix e f h g) (value i) = elim i [ ]
determined u (unfold_fix {v = v} {u = x} e f h g) (beta e' f' g') = absurd (lambda_stays (subst (λ g. BoxUnfolds g v x) (determined u e e').0 h))
determined u (unfold_fix {v = v} {u = x} e f h g) (box_app e' f') = absurd (box_stays (subst (λ g. BoxUnfolds g v x) (determined u e e').0 h))
determined {P} u (unfold_fix e f h g) (extend e' f' h') = absurd (more_or_unfolds (subst (λ g. BoxTakesMore P g) (sym (determined u e e').0) h') h)
determined {P} u (unfold_fix {g = fn} {v = v} {u = x} e f h g) (unfold_fix {v = v'} {u = x'} {w = w} {n'' = k} {m'' = a} e' f' h' g') =
    let r = determined u e e' in let q = determined u f f' in
    let same = one_unfolding h (subst (λ v. BoxUnfolds fn v x') (sym q.0) (subst (λ g. BoxUnfolds g v' x') (sym r.0) h')) in
    let s = determined u g (subst (λ t. BoxEvaluates P t w k a) (sym same) g') in
    (s.0, three r.1 q.1 s.1, three_only r.2 q.2 s.2)
determined u (enter e h b g) (value i) = elim i [ ]
determined {P} u (enter {f = f} {bs = bs} {qs = qs} {xs = xs} e h b g) (enter {c = d} {n' = m} {m' = a} {w = w} {qs = qs'} {xs = ys} e' h' b' g') =
    let r = determined u e e' in
    let one = one_constructor u h (subst (λ v. IsBoxConstructor P f d v qs' ys) (sym r.0) h') in
    let bodies = same_Some _ _ (sym b ∙ ap (term_at bs) one.0 ∙ b') in
    let s = determined u g (subst (λ t. BoxEvaluates P t w m a) (λ i. substitute (put_all (sym one.1 i) Rel) ((sym bodies i).1)) g') in
    (s.0, two r.1 s.1, two r.2 s.2)
determined u (enter e h b g) (enter_only k p e' g') = absurd (different u h k p)
determined u (enter_only k p e g) (value i) = elim i [ ]
determined u (enter_only k p e g) (enter e' h b g') = absurd (different u h k p)
determined u (enter_only k p e g) (enter_only k' p' e' g') =
    let r = determined u e e' in let s = determined u g g' in
    (s.0, two r.1 s.1, two r.2 s.2)

pub evaluation_is_determined : BoxEvaluationIsDetermined
evaluation_is_determined P h t v w n m a b e e' = determined (one_box_each P h) e e'

-- a value is read as one tree of data

family_of : BoxTerm → FamilyId → FamilyId
family_of (BConstruct f c) g = f
family_of t g = g

one_family : {P : BoxProgram} {f g : FamilyId} {c d : ℕ} {v : BoxTerm} {ps qs xs ys : List BoxTerm} → IsBoxConstructor P f c v ps xs → IsBoxConstructor P g d v qs ys → g ≡ f
unfolding family_of
one_family {f = f} {g = g} {c = c} {d = d} {ps = ps} {qs = qs} {xs = xs} {ys = ys} (is_box_constructor k o i p a e) (is_box_constructor k' o' i' p' a' e') =
    let heads : BConstruct g d ≡ BConstruct f c = sym (constructor_head (qs ++ ys) e') ∙ constructor_head (ps ++ xs) e in
    ap (λ t. family_of t f) heads

mutual
  pub one_reading : {P : BoxProgram} → OneBoxEach P → {w : BoxTerm} {d d' : Data} → BoxReads P w d → BoxReads P w d' → d ≡ d'
  one_reading {P} u {w} (box_reads {f = f} {c = c} {xs = xs} {ds = ds} k rs) (box_reads {f = g} {c = c'} {qs = qs'} {xs = ys} {ds = ds'} k' rs') =
      let one = one_constructor u k (subst (λ f. IsBoxConstructor P f c' w qs' ys) (one_family k k') k') in
      let rest : ds ≡ ds' = all_one_reading u rs (subst (λ xs. BoxReadsAll P xs ds') (sym one.1) rs') in
      λ i. (one.0 i, length (one.1 i)) ∷ rest i

  pub all_one_reading : {P : BoxProgram} → OneBoxEach P → {xs : List BoxTerm} {d d' : Data} → BoxReadsAll P xs d → BoxReadsAll P xs d' → d ≡ d'
  all_one_reading u no_box_field no_box_field = refl
  all_one_reading u (box_field r rs) (box_field r' rs') = λ i. one_reading u r r' i ++ all_one_reading u rs rs' i

pub reading_is_determined : BoxReadingIsDetermined
reading_is_determined P h w d d' r r' = one_reading (one_box_each P h) r r'
