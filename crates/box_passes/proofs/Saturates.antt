-- Saturation keeps data by substitution: the relation between terms before and after.
use Rattle.std.proofs.Common.{◌≡◌, ℕ, zero, suc, ◌+◌, ◌-◌, ◌<◌, ◌≤◌, List, [], ◌∷◌, ◌++◌, length, map, drop, true, Some, refl, sym, ap, ◌∙◌, subst, ⊎_elim, arith, length-append, append_assoc, append-nil}
use Rattle.std.proofs.lemmas.Bool.{cases_lt}
use Rattle.std.specs.Prelude.{slice_get}
use Rattle.trees.specs.Tree.{Rel, Done, Next, term_at}
use Rattle.trees.specs.Parallel.{over, overs, put, put_all, substitute}
use Rattle.trees.specs.Closed.{Closed, ClosedEach}
use Rattle.trees.proofs.Bounds.{closed_at}
use Rattle.trees.proofs.Cutoffs.{overs_below, overs_past}
use Rattle.trees.proofs.Put.{each_append, substitute_whole, overs_over}
use Rattle.pc_terms.specs.declared.leaf.Name.{Name}
use Rattle.pc_terms.specs.declared.leaf.FamilyId.{FamilyId}
use Rattle.box_terms.specs.BoxSyntax.{BoxTerm, BoxTerms, Box, BLambda, BApp, BConstruct, BCase, BFix}
use Rattle.lambda_box.specs.BoxProgram.{BoxFamily, BoxProgram, KeepsBoxConstant, KeepsBoxFamily, box_apply, boxes}
use Rattle.lambda_box.specs.BoxEvaluation.{box_is, lambda_is, construct_is, fix_is, IsBoxConstructor, is_box_constructor, BoxTakesMore, constructor, fixpoint, box_unfolded, BoxUnfolds, unfolds, BoxEvaluates, value, constant, let_in, beta, box_app, extend, unfold_fix, enter, enter_only}
use Rattle.lambda_box.specs.BoxData.{Data, BoxReads, BoxReadsAll, box_reads, no_box_field, box_field}
use Rattle.box_passes.specs.Saturate.{innermost, lambdas}
use Rattle.lambda_box.proofs.Spines.{head_of, arguments, arguments_before, constructor_head, constructor_arguments, closed_put, closed_put_all, of_closed_apply, of_closed_append, closed_term_at, closed_evaluates, closed_unfolds, closed_boxes, boxes_number, construct_not_fix, apply_last}
use Rattle.lambda_box.proofs.Determined.{lambda_takes_no_more}
use Rattle.box_passes.proofs.Standing.{rename_whole}
use Rattle.box_passes.proofs.Selves.{one_more, no_lambda, no_box, construct_not_unfolded}
use Rattle.box_passes.proofs.Follows.{same_counts}
use Rattle.box_passes.proofs.Filling.{drop_first, drop_before}
use Rattle.box_passes.proofs.Keeping.{drop_everything}
use Rattle.box_passes.proofs.Results.{IsResult, result_value, result_more, result_of, itself, same}
use Rattle.box_passes.proofs.SaturateRelation.{sat_put, sat_variables, Sat, SatArgs, SatList, SatTerms, SatWaits, args_count, args_count', args_dropped, args_is, args_is', args_kept, args_none, sat_all, sat_app, sat_apply, sat_at, sat_box, sat_boxes, sat_case, sat_constant}
use Rattle.box_passes.proofs.SaturateRelation.{sat_done, sat_first, sat_fix, sat_fixpoints, sat_full, sat_lambda, sat_length, sat_let, sat_next, sat_none, sat_one, sat_rel, sat_waits, waiting, waits_count, waits_dropped, waits_is, waits_kept, waits_none, waits_values}

spine_is : (t : BoxTerm) (xs : List BoxTerm) → box_apply (head_of t) (arguments t xs) ≡ box_apply t xs
spine_is (BApp f a) xs = spine_is f (a ∷ xs)
spine_is t xs = refl

-- a term with a constructor for its head is that constructor applied to its arguments
pub constructor_spine : {t : BoxTerm} {f : FamilyId} {c : ℕ} → head_of t ≡ BConstruct f c → t ≡ box_apply (BConstruct f c) (arguments t [])
constructor_spine {t} e = sym (spine_is t []) ∙ ap (λ h. box_apply h (arguments t [])) e

-- substitution in the function that a constructor is

substitute_lambdas : (m : ℕ) (s : ℕ → BoxTerm) (b : BoxTerm) → substitute s (lambdas m b) ≡ lambdas m (substitute (overs m s) b)
substitute_lambdas zero s b = refl
substitute_lambdas (suc m) s b = ap BLambda (substitute_lambdas m (over s) b ∙ ap (λ q. lambdas m (substitute q b)) (overs_over m s))

substitute_apply : (s : ℕ → BoxTerm) (f : BoxTerm) (xs : List BoxTerm) → substitute s (box_apply f xs) ≡ box_apply (substitute s f) (map (substitute s) xs)
substitute_apply s f [] = refl
substitute_apply s f (x ∷ xs) = substitute_apply s (BApp f x) xs

closed_same : (s : ℕ → BoxTerm) (xs : List BoxTerm) → ClosedEach 0 xs → map (substitute s) xs ≡ xs
closed_same s [] c = refl
closed_same s (x ∷ xs) c = λ i. substitute_whole x s c.0 i ∷ closed_same s xs c.1 i

innermost_below : (r m : ℕ) (s : ℕ → BoxTerm) → r ≤ m → map (substitute (overs m s)) (innermost r) ≡ innermost r
innermost_below zero m s l = refl
innermost_below (suc r) m s l = let e = overs_below m s r (omega arith) in let g = innermost_below r m s (omega arith) in λ i. e i ∷ g i

innermost_at : (m : ℕ) (v : BoxTerm) → Closed 0 v → map (substitute (overs m (put v))) (innermost (suc m)) ≡ v ∷ innermost m
innermost_at m v c =
    let z : m ≡ m + 0 = omega arith in
    let e = ap (overs m (put v)) z ∙ overs_past m (put v) 0 ∙ rename_whole v (λ i. m + i) c in
    let g = innermost_below m m (put v) (omega arith) in
    λ i. e i ∷ g i

put_dropped : (m n : ℕ) (f : FamilyId) (c : ℕ) (vs : List BoxTerm) (v : BoxTerm) → ClosedEach 0 vs → n - length vs ≤ m → substitute (put v) (waiting m n f c vs) ≡ waiting m n f c vs
put_dropped m n f c vs v cl l =
    substitute_lambdas m (put v) (box_apply (BConstruct f c) (vs ++ innermost (n - length vs)))
    ∙ ap (lambdas m) (substitute_apply (overs m (put v)) (BConstruct f c) (vs ++ innermost (n - length vs))
    ∙ ap (box_apply (BConstruct f c)) (each_append (substitute (overs m (put v))) vs (innermost (n - length vs))
    ∙ (λ i. closed_same (overs m (put v)) vs cl i ++ innermost_below (n - length vs) m (put v) l i)))

put_kept : (m n : ℕ) (f : FamilyId) (c : ℕ) (vs : List BoxTerm) (v : BoxTerm) → ClosedEach 0 vs → Closed 0 v → n - length vs ≡ suc m → substitute (put v) (waiting m n f c vs) ≡ waiting m n f c (vs ++ v ∷ [])
put_kept m n f c vs v cl cv l =
    let left : m ≡ n - length (vs ++ v ∷ []) = omega (arith, length-append vs (v ∷ []), l) in
    substitute_lambdas m (put v) (box_apply (BConstruct f c) (vs ++ innermost (n - length vs)))
    ∙ ap (lambdas m) (substitute_apply (overs m (put v)) (BConstruct f c) (vs ++ innermost (n - length vs))
    ∙ ap (box_apply (BConstruct f c)) (each_append (substitute (overs m (put v))) vs (innermost (n - length vs))
    ∙ (λ i. closed_same (overs m (put v)) vs cl i ++ (ap (λ r. map (substitute (overs m (put v))) (innermost r)) l ∙ innermost_at m v cv) i)
    ∙ sym (append_assoc vs (v ∷ []) (innermost m)) ∙ ap (λ r. (vs ++ v ∷ []) ++ innermost r) left))

closed_last : (xs : List BoxTerm) (u : BoxTerm) → ClosedEach 0 xs → Closed 0 u → ClosedEach 0 (xs ++ u ∷ [])
closed_last [] u h c = (c, tt)
closed_last (x ∷ xs) u h c = (h.0, closed_last xs u h.1 c)

pub record SatFamily (Q : BoxProgram) (f : FamilyId) (F : BoxFamily) : Type 0 where
  pub family : BoxFamily
  pub keeps : KeepsBoxFamily Q f family
  pub args : family.args ≡ F.args
  pub propositional : family.propositional ≡ F.propositional
  pub params : family.params ≡ 0

module _ (P Q : BoxProgram) (closed : (k : Name) (b : BoxTerm) → KeepsBoxConstant P k b → Closed 0 b) (closed' : (k : Name) (b : BoxTerm) → KeepsBoxConstant Q k b → Closed 0 b)
    (constants : (k : Name) (b : BoxTerm) → KeepsBoxConstant P k b → (b' : BoxTerm) × KeepsBoxConstant Q k b' × Sat P Q b b') (families : (f : FamilyId) (F : BoxFamily) → KeepsBoxFamily P f F → SatFamily Q f F)
    (unique : (f : FamilyId) (F G : BoxFamily) → KeepsBoxFamily P f F → KeepsBoxFamily P f G → F ≡ G) where
  -- in the saturated program a constructor with arguments missing takes more
  takes_argument : {f : FamilyId} {c n : ℕ} {F : BoxFamily} {t : BoxTerm} → KeepsBoxFamily P f F → slice_get F.args c ≡ Some n → head_of t ≡ BConstruct f c → length (arguments t []) < n → BoxTakesMore Q t
  takes_argument {f} {c} {n} {F} {t} keeps at e l =
      let G = families f F keeps in
      constructor f c (arguments t []) G.keeps (ap (λ l. slice_get l c) G.args ∙ at) (omega (arith, l, G.params)) (constructor_spine e)

  waits_result : {f : FamilyId} {c n j : ℕ} {F : BoxFamily} {t : BoxTerm} {vs : List BoxTerm} → KeepsBoxFamily P f F → slice_get F.args c ≡ Some n → j ≤ F.params + n → SatWaits P Q f c F.params j t vs → IsResult P t
  waits_result keeps at l waits_none = result_value construct_is
  waits_result {f} {c} keeps at l (waits_dropped {t = t} lt r h) = result_more (waits_result keeps at (omega arith) h) r (constructor f c (arguments t []) keeps at (omega (arith, waits_count P Q h)) (constructor_spine (waits_is P Q h)))
  waits_result {f} {c} keeps at l (waits_kept {t = t} le r r' cl g h e) =
      result_more (waits_result keeps at (omega arith) h) r (constructor f c (arguments t []) keeps at (omega (arith, waits_count P Q h)) (constructor_spine (waits_is P Q h)))

  waits_args : {f : FamilyId} {c p j : ℕ} {t : BoxTerm} {vs : List BoxTerm} → SatWaits P Q f c p j t vs → SatArgs P Q f c p j t (box_apply (BConstruct f c) vs)
  waits_args waits_none = args_none
  waits_args (waits_dropped l r h) = args_dropped l (waits_args h)
  waits_args {f} {c} {p} {j} {t} (waits_kept {u' = u'} {vs = vs} l r r' cl g h e) =
      subst (λ t'. SatArgs P Q f c p j t t') (sym (ap (box_apply (BConstruct f c)) e ∙ apply_last (BConstruct f c) vs u')) (args_kept l (waits_args h) g)

  waits_result' : {f : FamilyId} {c n j : ℕ} {F : BoxFamily} {t : BoxTerm} {vs : List BoxTerm} → KeepsBoxFamily P f F → slice_get F.args c ≡ Some n → j ≤ F.params + n → SatWaits P Q f c F.params j t vs → IsResult Q (box_apply (BConstruct f c) vs)
  waits_result' keeps at l waits_none = result_value construct_is
  waits_result' keeps at l (waits_dropped lt r h) = waits_result' keeps at (omega arith) h
  waits_result' {f} {c} keeps at l (waits_kept {u' = u'} {vs = vs} le r r' cl g h e) =
      let a = waits_args h in
      subst (λ t. IsResult Q t) (sym (ap (box_apply (BConstruct f c)) e ∙ apply_last (BConstruct f c) vs u'))
      (result_more (waits_result' keeps at (omega arith) h) r' (takes_argument keeps at (args_is' P Q a) (omega (arith, args_count' P Q a))))

  waits_closed : {f : FamilyId} {c p j : ℕ} {t : BoxTerm} {vs : List BoxTerm} → SatWaits P Q f c p j t vs → ClosedEach 0 vs
  waits_closed waits_none = tt
  waits_closed (waits_dropped l r h) = waits_closed h
  waits_closed (waits_kept {u' = u'} {vs = vs} l r r' cl g h e) = subst (λ l. ClosedEach 0 l) (sym e) (closed_last vs u' (waits_closed h) cl)

  -- a constructor that waits is a function
  record WaitingOf (g g' : BoxTerm) : Type 0 where
    f : FamilyId
    c : ℕ
    n : ℕ
    j : ℕ
    m : ℕ
    F : BoxFamily
    vs : List BoxTerm
    keeps : KeepsBoxFamily P f F
    at : slice_get F.args c ≡ Some n
    count : j + suc m ≡ F.params + n
    cl : Closed 0 g
    cl' : Closed 0 g'
    waits : SatWaits P Q f c F.params j g vs
    is : g' ≡ BLambda (waiting m n f c vs)

  waiting_of : {g g' : BoxTerm} {f : FamilyId} {c n : ℕ} {F : BoxFamily} → Sat P Q g g' → IsResult Q g' → KeepsBoxFamily P f F → slice_get F.args c ≡ Some n → head_of g ≡ BConstruct f c → length (arguments g []) < F.params + n → WaitingOf g g'
  waiting_of (sat_waits m F at z cl cl' h e) r keeps at' head l = record { f = _; c = _; n = _; j = _; m = m; F = _; vs = _; keeps = F; at = at; count = z; cl = cl; cl' = cl'; waits = h; is = e }
  waiting_of (sat_full F at z h) r keeps at' head l = let s = same_counts P unique (sym head ∙ args_is P Q h) keeps at' F at in absurd (omega (arith, args_count P Q h, s.0, s.1))
  waiting_of (sat_app h k) (result_value i) keeps at' head l = elim i [ ]
  waiting_of (sat_app {f = f} {a = a} h k) (result_more r ra m) keeps at' head l =
      let w = waiting_of h r keeps at' head (omega (arith, one_more f a)) in
      absurd (lambda_takes_no_more (subst (λ t. BoxTakesMore Q t) w.is m))
  waiting_of sat_rel r keeps at' head l = absurd (cc)
  waiting_of sat_box r keeps at' head l = absurd (cc)
  waiting_of (sat_lambda h) r keeps at' head l = absurd (cc)
  waiting_of (sat_let h k) r keeps at' head l = absurd (cc)
  waiting_of sat_constant r keeps at' head l = absurd (cc)
  waiting_of (sat_case h k) r keeps at' head l = absurd (cc)
  waiting_of (sat_fix h) r keeps at' head l = absurd (cc)

  -- a constructor with all its parameters and arguments
  sat_snoc : {xs ys : List BoxTerm} {x y : BoxTerm} → SatList P Q xs ys → Sat P Q x y → SatList P Q (xs ++ x ∷ []) (ys ++ y ∷ [])
  sat_snoc sat_none g = sat_one g sat_none
  sat_snoc (sat_one h hs) g = sat_one h (sat_snoc hs g)

  args_list : {f : FamilyId} {c p j : ℕ} {t t' : BoxTerm} → SatArgs P Q f c p j t t' → SatList P Q (drop p (arguments t [])) (arguments t' [])
  args_list {p = p} args_none = subst (λ l. SatList P Q l []) (sym (drop_everything p [] (omega arith))) sat_none
  args_list {p = p} (args_dropped {t = t} {u = u} {t' = t'} l h) =
      let none = drop_everything p (arguments (BApp t u) []) (omega (arith, one_more t u, args_count P Q h)) in
      let before = drop_everything p (arguments t []) (omega (arith, args_count P Q h)) in
      subst (λ l. SatList P Q l (arguments t' [])) (before ∙ sym none) (args_list h)
  args_list {p = p} (args_kept {t = t} {u = u} {t' = t'} {u' = u'} l h g) =
      let e = ap (drop p) (arguments_before t (u ∷ [])) ∙ drop_before p (arguments t []) u (omega (arith, args_count P Q h)) in
      let e' = arguments_before t' (u' ∷ []) in
      subst (λ ys. SatList P Q (drop p (arguments (BApp t u) [])) ys) (sym e') (subst (λ xs. SatList P Q xs (arguments t' [] ++ u' ∷ [])) (sym e) (sat_snoc (args_list h) g))

  data ConstructSat (v v' : BoxTerm) : Type 0 where
    full_sat : {f : FamilyId} {c n j : ℕ} {F : BoxFamily} → KeepsBoxFamily P f F → slice_get F.args c ≡ Some n → j ≡ F.params + n → SatArgs P Q f c F.params j v v' → ConstructSat v v'
    waits_sat : {f : FamilyId} {c n j : ℕ} {F : BoxFamily} {vs : List BoxTerm} (m : ℕ) → KeepsBoxFamily P f F → slice_get F.args c ≡ Some n → j + suc m ≡ F.params + n → SatWaits P Q f c F.params j v vs → ConstructSat v v'
    app_sat : {g a g' a' : BoxTerm} → BApp g a ≡ v → v' ≡ BApp g' a' → Sat P Q g g' → ConstructSat v v'

  construct_sat : {f : FamilyId} {c : ℕ} {v v' : BoxTerm} → head_of v ≡ BConstruct f c → Sat P Q v v' → ConstructSat v v'
  construct_sat head (sat_full F at z h) = full_sat F at z h
  construct_sat head (sat_waits m F at z cl cl' h e) = waits_sat m F at z h
  construct_sat head (sat_app h k) = app_sat refl refl h
  construct_sat head sat_rel = absurd (cc)
  construct_sat head sat_box = absurd (cc)
  construct_sat head (sat_lambda h) = absurd (cc)
  construct_sat head (sat_let h k) = absurd (cc)
  construct_sat head sat_constant = absurd (cc)
  construct_sat head (sat_case h k) = absurd (cc)
  construct_sat head (sat_fix h) = absurd (cc)

  record FullOf (f : FamilyId) (c : ℕ) (v' : BoxTerm) (xs : List BoxTerm) : Type 0 where
    xs' : List BoxTerm
    is : IsBoxConstructor Q f c v' [] xs'
    args : SatList P Q xs xs'

  full_of : {f : FamilyId} {c : ℕ} {v v' : BoxTerm} {qs xs : List BoxTerm} → Sat P Q v v' → IsResult Q v' → IsBoxConstructor P f c v qs xs → FullOf f c v' xs
  full_of {f} {c} {v} {v'} {qs} {xs} h r (is_box_constructor {F = F} {n = n} keeps p at lq lx e) = go (construct_sat (constructor_head (qs ++ xs) e) h) r
    where
      head : head_of v ≡ BConstruct f c
      head = constructor_head (qs ++ xs) e

      args : arguments v [] ≡ qs ++ xs
      args = constructor_arguments f c (qs ++ xs) e

      many : length (arguments v []) ≡ F.params + n
      many = omega (arith, ap length args, length-append qs xs, lq, lx)

      full : {g : FamilyId} {d k j : ℕ} {G : BoxFamily} → KeepsBoxFamily P g G → slice_get G.args d ≡ Some k → j ≡ G.params + k → SatArgs P Q g d G.params j v v' → FullOf f c v' xs
      full {G = G} keeps' at' z a =
          let e1 = sym (args_is P Q a) ∙ head in
          let s = same_counts P unique e1 keeps' at' keeps at in
          let H = families f F keeps in
          let list = subst (λ l. SatList P Q l (arguments v' [])) (ap (drop G.params) args ∙ drop_first G.params qs xs (omega (arith, lq, s.0))) (args_list a) in
          record {
            xs' = arguments v' [];
            is = is_box_constructor H.keeps (H.propositional ∙ p) (ap (λ l. slice_get l c) H.args ∙ at) (sym H.params) (omega (arith, args_count' P Q a, s.0, s.1)) (constructor_spine (args_is' P Q a ∙ e1));
            args = list;
          }

      waits_not : (m : ℕ) {g : FamilyId} {d k j : ℕ} {G : BoxFamily} {vs : List BoxTerm} → KeepsBoxFamily P g G → slice_get G.args d ≡ Some k → j + suc m ≡ G.params + k → SatWaits P Q g d G.params j v vs → ⊥
      waits_not m keeps' at' z a =
          let s = same_counts P unique (sym (waits_is P Q a) ∙ head) keeps' at' keeps at in
          omega (arith, waits_count P Q a, many, s.0, s.1)

      app_not : {g a : BoxTerm} {g' a' : BoxTerm} → BApp g a ≡ v → Sat P Q g g' → IsResult Q (BApp g' a') → ⊥
      app_not q h (result_value i) = elim i [ ]
      app_not {g} {a} q h (result_more r ra m) =
          let many' : length (arguments (BApp g a) []) ≡ F.params + n = ap (λ t. length (arguments t [])) q ∙ many in
          let w = waiting_of h r keeps at (ap head_of q ∙ head) (omega (arith, one_more g a, many')) in
          lambda_takes_no_more (subst (λ t. BoxTakesMore Q t) w.is m)

      go : ConstructSat v v' → IsResult Q v' → FullOf f c v' xs
      go (full_sat keeps' at' z a) r = full keeps' at' z a
      go (waits_sat m keeps' at' z a) r = absurd (waits_not m keeps' at' z a)
      go (app_sat q q' h) r = absurd (app_not q h (subst (λ t. IsResult Q t) q' r))

  -- a fixpoint with some values
  record AppliedFix (i : ℕ) (rargs : List ℕ) (bs : BoxTerms) (xs : List BoxTerm) (t : BoxTerm) : Type 0 where
    bs' : BoxTerms
    xs' : List BoxTerm
    bodies : SatTerms P Q bs bs'
    args : SatList P Q xs xs'
    is : t ≡ box_apply (BFix i rargs bs') xs'

  record AppliedTo (f : BoxTerm) (xs : List BoxTerm) (t : BoxTerm) : Type 0 where
    f' : BoxTerm
    xs' : List BoxTerm
    head : Sat P Q f f'
    args : SatList P Q xs xs'
    is : t ≡ box_apply f' xs'

  data IsFixHead (t : BoxTerm) : Type 0 where
    fix_is_head : (i : ℕ) (rargs : List ℕ) (bs : BoxTerms) → head_of t ≡ BFix i rargs bs → IsFixHead t

  not_construct : {t : BoxTerm} {f : FamilyId} {c : ℕ} → IsFixHead t → head_of t ≡ BConstruct f c → ⊥
  not_construct (fix_is_head i rargs bs e) g = construct_not_fix (sym g ∙ e)

  of_sat_apply : {f t : BoxTerm} (xs : List BoxTerm) → IsFixHead f → Sat P Q (box_apply f xs) t → AppliedTo f xs t
  of_sat_apply {t = t} [] q h = record { f' = t; xs' = []; head = h; args = sat_none; is = refl }
  of_sat_apply {f} {t} (x ∷ xs) (fix_is_head i rargs bs e) h = let r = of_sat_apply xs (fix_is_head i rargs bs e) h in go r.head r.args r.is
    where
      go : {u : BoxTerm} {ys : List BoxTerm} → Sat P Q (BApp f x) u → SatList P Q xs ys → t ≡ box_apply u ys → AppliedTo f (x ∷ xs) t
      go {ys = ys} (sat_app {f' = f'} {a' = a'} h g) gs q = record { f' = f'; xs' = a' ∷ ys; head = h; args = sat_one g gs; is = q }
      go (sat_full F at z h) gs q = absurd (construct_not_fix (sym (args_is P Q h) ∙ e))
      go (sat_waits m F at z cl cl' h e') gs q = absurd (construct_not_fix (sym (waits_is P Q h) ∙ e))

  applied_fix : {g g' : BoxTerm} (i : ℕ) (rargs : List ℕ) (bs : BoxTerms) (xs : List BoxTerm) → g ≡ box_apply (BFix i rargs bs) xs → Sat P Q g g' → AppliedFix i rargs bs xs g'
  applied_fix {g} {g'} i rargs bs xs e h =
      let r = of_sat_apply xs (fix_is_head i rargs bs refl) (subst (λ t. Sat P Q t g') e h) in
      go r.head r.args r.is
    where
      go : {u : BoxTerm} {ys : List BoxTerm} → Sat P Q (BFix i rargs bs) u → SatList P Q xs ys → g' ≡ box_apply u ys → AppliedFix i rargs bs xs g'
      go {ys = ys} (sat_fix {bs' = bs'} hs) gs q = record { bs' = bs'; xs' = ys; bodies = hs; args = gs; is = q }
      go (sat_full F at z h) gs q = absurd (construct_not_fix (sym (args_is P Q h)))
      go (sat_waits m F at z cl cl' h e') gs q = absurd (construct_not_fix (sym (waits_is P Q h)))

  record Unfolded (g v u : BoxTerm) : Type 0 where
    u' : BoxTerm
    unfolds' : BoxUnfolds g v u'
    is : Sat P Q u u'

  unfolded : {g g' v v' u : BoxTerm} → Sat P Q g g' → Sat P Q v v' → BoxUnfolds g v u → Unfolded g' v' u
  unfolded {v' = v'} h hv (unfolds i rargs bodies xs {body = body} r l b e) =
      let a = applied_fix i rargs bodies xs e h in
      let d = sat_at P Q i a.bodies b in
      record {
        u' = BApp (box_apply (box_unfolded rargs a.bs' d.t') a.xs') v';
        unfolds' = unfolds i rargs a.bs' a.xs' r (sat_length P Q a.args ∙ l) d.at a.is;
        is = sat_app (sat_apply P Q a.args (sat_put P Q (sat_all P Q (sat_fixpoints P Q 0 (length rargs) rargs a.bodies) (sat_variables P Q)) d.is)) hv;
      }

  -- what the saturated term evaluates to
  pub record Kept (t w : BoxTerm) : Type 0 where
    pub w' : BoxTerm
    pub n : ℕ
    pub m : ℕ
    pub ev : BoxEvaluates Q t w' n m
    pub is : Sat P Q w w'

  record KeptArgs (f : FamilyId) (c p j : ℕ) (t w : BoxTerm) : Type 0 where
    w' : BoxTerm
    n : ℕ
    m : ℕ
    ev : BoxEvaluates Q t w' n m
    is : SatArgs P Q f c p j w w'

  data LambdaSat (b : BoxTerm) : BoxTerm → Type 0 where
    lambda_sat : {b' : BoxTerm} → Sat P Q b b' → LambdaSat b (BLambda b')

  lambda_of : {b t : BoxTerm} → Sat P Q (BLambda b) t → LambdaSat b t
  lambda_of (sat_lambda h) = lambda_sat h
  lambda_of (sat_full F at z h) = absurd (no_lambda (args_is P Q h))
  lambda_of (sat_waits m F at z cl cl' h e) = absurd (no_lambda (waits_is P Q h))

  data BoxSat : BoxTerm → Type 0 where
    box_sat : BoxSat Box

  box_of : {t : BoxTerm} → Sat P Q Box t → BoxSat t
  box_of sat_box = box_sat
  box_of (sat_full F at z h) = absurd (no_box (args_is P Q h))
  box_of (sat_waits m F at z cl cl' h e) = absurd (no_box (waits_is P Q h))

  beta_kept : {f' a' b v w : BoxTerm} → Closed 0 f' → Closed 0 a' → Kept f' (BLambda b) → Kept a' v → ((b' v' : BoxTerm) → Closed 0 (substitute (put v') b') → Sat P Q b b' → Sat P Q v v' → Kept (substitute (put v') b') w) → Kept (BApp f' a') w
  beta_kept {f' = f'} {a' = a'} {b = b} {w = w} cf ca kf ka rest = go (lambda_of kf.is) kf.ev
    where
      go : {u : BoxTerm} → LambdaSat b u → BoxEvaluates Q f' u kf.n kf.m → Kept (BApp f' a') w
      go (lambda_sat {b' = b'} h) ev =
          let cl = closed_put ka.w' b' (closed_evaluates closed' ka.ev ca) (closed_evaluates closed' ev cf).0 in
          let r = rest b' ka.w' cl h ka.is in
          record { w' = r.w'; n = _; m = _; ev = beta ev ka.ev r.ev; is = r.is }

  box_kept : {f' a' v : BoxTerm} → Kept f' Box → Kept a' v → Kept (BApp f' a') Box
  box_kept {f'} {a'} {v} kf ka = go (box_of kf.is) kf.ev
    where
      go : {u : BoxTerm} → BoxSat u → BoxEvaluates Q f' u kf.n kf.m → Kept (BApp f' a') Box
      go box_sat ev = record { w' = Box; n = _; m = _; ev = box_app ev ka.ev; is = sat_box }

  only_kept : {f : FamilyId} {F : BoxFamily} {s b w : BoxTerm} (k : ℕ) → KeepsBoxFamily P f F → F.propositional ≡ true → Kept s Box → Kept (substitute (put_all (boxes k) Rel) b) w → Kept (BCase f s (Next k b Done)) w
  only_kept {f} {F} {s} {b} {w} k keeps p ks kb = go (box_of ks.is) ks.ev
    where
      go : {u : BoxTerm} → BoxSat u → BoxEvaluates Q s u ks.n ks.m → Kept (BCase f s (Next k b Done)) w
      go box_sat ev = let G = families f F keeps in record { w' = kb.w'; n = _; m = _; ev = enter_only G.keeps (G.propositional ∙ p) ev kb.ev; is = kb.is }

  -- the function takes one more argument
  next_waits : {g : BoxTerm} {f : FamilyId} {c n j : ℕ} {F : BoxFamily} {vs : List BoxTerm} (m : ℕ) → KeepsBoxFamily P f F → slice_get F.args c ≡ Some n → j + m ≡ F.params + n → Closed 0 g → Closed 0 (waiting m n f c vs) →
      SatWaits P Q f c F.params j g vs → Kept (waiting m n f c vs) g
  next_waits {g} {f = f} {c} {n} {j} {F} {vs} (suc m) keeps at z cl cl' h = record { w' = _; n = _; m = _; ev = value lambda_is; is = sat_waits m keeps at z cl cl' h refl }
  next_waits {g} {f = f} {c} {n} {j} {F} {vs} zero keeps at z cl cl' h =
      let left : n - length vs ≡ 0 = omega (arith, waits_values P Q h) in
      let e = ap (λ r. box_apply (BConstruct f c) (vs ++ innermost r)) left ∙ ap (box_apply (BConstruct f c)) (append-nil vs) in
      let i = itself (waits_result' keeps at (omega arith) h) in
      record {
        w' = box_apply (BConstruct f c) vs;
        n = i.nodes;
        m = 0;
        ev = subst (λ t. BoxEvaluates Q t (box_apply (BConstruct f c) vs) i.nodes 0) (sym e) i.evaluates;
        is = sat_full keeps at (omega arith) (waits_args h);
      }

  waits_kept_one : {f' a' g v : BoxTerm} → Closed 0 f' → Closed 0 a' → Closed 0 v → IsResult P v → (kf : Kept f' g) → Kept a' v → WaitingOf g kf.w' → Kept (BApp f' a') (BApp g v)
  waits_kept_one {f'} {a'} {g} {v} cf ca cv rv kf ka w =
      let ev = subst (λ u. BoxEvaluates Q f' u kf.n kf.m) w.is kf.ev in
      let cv' = closed_evaluates closed' ka.ev ca in
      let clam = closed_evaluates closed' ev cf in
      let cbody = closed_put ka.w' (waiting w.m w.n w.f w.c w.vs) cv' clam.0 in
      ⊎_elim (λ lt. dropped lt ev cbody) (λ le. kept le ev cbody cv') (cases_lt w.j w.F.params)
    where
      finish : {vs : List BoxTerm} → BoxEvaluates Q f' (BLambda (waiting w.m w.n w.f w.c w.vs)) kf.n kf.m → substitute (put ka.w') (waiting w.m w.n w.f w.c w.vs) ≡ waiting w.m w.n w.f w.c vs →
          Closed 0 (substitute (put ka.w') (waiting w.m w.n w.f w.c w.vs)) → SatWaits P Q w.f w.c w.F.params (suc w.j) (BApp g v) vs → Kept (BApp f' a') (BApp g v)
      finish {vs} ev e cl h =
          let r = next_waits w.m w.keeps w.at (omega (arith, w.count)) (w.cl, (cv, tt)) (subst (λ t. Closed 0 t) e cl) h in
          record { w' = r.w'; n = _; m = _; ev = beta ev ka.ev (subst (λ t. BoxEvaluates Q t r.w' r.n r.m) (sym e) r.ev); is = r.is }

      dropped : w.j < w.F.params → BoxEvaluates Q f' (BLambda (waiting w.m w.n w.f w.c w.vs)) kf.n kf.m → Closed 0 (substitute (put ka.w') (waiting w.m w.n w.f w.c w.vs)) → Kept (BApp f' a') (BApp g v)
      dropped lt ev cl = finish ev (put_dropped w.m w.n w.f w.c w.vs ka.w' (waits_closed w.waits) (omega (arith, w.count, waits_values P Q w.waits))) cl (waits_dropped lt rv w.waits)

      kept : w.F.params ≤ w.j → BoxEvaluates Q f' (BLambda (waiting w.m w.n w.f w.c w.vs)) kf.n kf.m → Closed 0 (substitute (put ka.w') (waiting w.m w.n w.f w.c w.vs)) → Closed 0 ka.w' → Kept (BApp f' a') (BApp g v)
      kept le ev cl cv' =
          finish ev (put_kept w.m w.n w.f w.c w.vs ka.w' (waits_closed w.waits) cv' (omega (arith, w.count, waits_values P Q w.waits))) cl
          (waits_kept le rv (result_of ka.ev) cv' ka.is w.waits refl)

  head_kept : {f : FamilyId} {c p : ℕ} → KeptArgs f c p 0 (BConstruct f c) (BConstruct f c)
  head_kept = record { w' = _; n = 1; m = 0; ev = value construct_is; is = args_none }

  dropped_kept : {f : FamilyId} {c p j : ℕ} {t w v : BoxTerm} → j < p → KeptArgs f c p j t w → KeptArgs f c p (suc j) t (BApp w v)
  dropped_kept l k = record { w' = k.w'; n = k.n; m = k.m; ev = k.ev; is = args_dropped l k.is }

  argument_kept : {f : FamilyId} {c n j : ℕ} {F : BoxFamily} {t a w v : BoxTerm} → KeepsBoxFamily P f F → slice_get F.args c ≡ Some n → suc j ≤ F.params + n → F.params ≤ j → KeptArgs f c F.params j t w → Kept a v → KeptArgs f c F.params (suc j) (BApp t a) (BApp w v)
  argument_kept keeps at l le k ka =
      record { w' = _; n = _; m = _; ev = extend k.ev ka.ev (takes_argument keeps at (args_is' P Q k.is) (omega (arith, args_count' P Q k.is))); is = args_kept le k.is ka.is }

  full_kept : {f : FamilyId} {c n j : ℕ} {F : BoxFamily} {t w : BoxTerm} → KeepsBoxFamily P f F → slice_get F.args c ≡ Some n → j ≡ F.params + n → KeptArgs f c F.params j t w → Kept t w
  full_kept keeps at z k = record { w' = k.w'; n = k.n; m = k.m; ev = k.ev; is = sat_full keeps at z k.is }

  sat_closed_all : {xs : List BoxTerm} {f : FamilyId} {c : ℕ} {v : BoxTerm} → Closed 0 v → IsBoxConstructor Q f c v [] xs → ClosedEach 0 xs
  sat_closed_all {xs} {f} {c} cl (is_box_constructor k p a lq lx e) = (of_closed_apply xs (BConstruct f c) (subst (λ t. Closed 0 t) e cl)).1

  con_closed : {qs xs : List BoxTerm} {f : FamilyId} {c : ℕ} {v : BoxTerm} → Closed 0 v → IsBoxConstructor P f c v qs xs → ClosedEach 0 xs
  con_closed {qs} {xs} {f} {c} cl (is_box_constructor k p a lq lx e) = of_closed_append qs xs (of_closed_apply (qs ++ xs) (BConstruct f c) (subst (λ t. Closed 0 t) e cl)).1

  mutual
    pub keeps : {t t' w : BoxTerm} {n m : ℕ} → BoxEvaluates P t w n m → Sat P Q t t' → Closed 0 t → Closed 0 t' → Kept t' w
    keeps {t' = t'} d (sat_waits {t = t} m F at z cl cl2 h e) ct ct' =
        let s = same (waits_result F at (omega arith) h) d in
        record { w' = t'; n = 1; m = 0; ev = subst (λ u. BoxEvaluates Q u u 1 0) (sym e) (value lambda_is); is = subst (λ x. Sat P Q x t') (sym s) (sat_waits m F at z cl cl2 h e) }
    keeps (constant at' d) (sat_full F at z h) ct ct' = elim h [ ]
    keeps (let_in d1 d2) (sat_full F at z h) ct ct' = elim h [ ]
    keeps (enter d1 con at' d2) (sat_full F at z h) ct ct' = elim h [ ]
    keeps (enter_only G p d1 d2) (sat_full F at z h) ct ct' = elim h [ ]
    keeps (value i) (sat_full F at z args_none) ct ct' = full_kept F at z head_kept
    keeps (value i) (sat_full F at z (args_dropped l h)) ct ct' = elim i [ ]
    keeps (beta d1 d2 d3) (sat_full F at z (args_dropped l h)) ct ct' = let k = keeps_args F at (omega arith) d1 h ct.0 ct' in absurd (no_lambda (args_is P Q k.is))
    keeps (box_app d1 d2) (sat_full F at z (args_dropped l h)) ct ct' = let k = keeps_args F at (omega arith) d1 h ct.0 ct' in absurd (no_box (args_is P Q k.is))
    keeps (unfold_fix d1 d2 u d3) (sat_full F at z (args_dropped l h)) ct ct' = let k = keeps_args F at (omega arith) d1 h ct.0 ct' in absurd (construct_not_unfolded (args_is P Q k.is) u)
    keeps (extend d1 d2 m) (sat_full F at z (args_dropped l h)) ct ct' = full_kept F at z (dropped_kept l (keeps_args F at (omega arith) d1 h ct.0 ct'))
    keeps (value i) (sat_full F at z (args_kept l h g)) ct ct' = elim i [ ]
    keeps (beta d1 d2 d3) (sat_full F at z (args_kept l h g)) ct ct' = let k = keeps_args F at (omega arith) d1 h ct.0 ct'.0 in absurd (no_lambda (args_is P Q k.is))
    keeps (box_app d1 d2) (sat_full F at z (args_kept l h g)) ct ct' = let k = keeps_args F at (omega arith) d1 h ct.0 ct'.0 in absurd (no_box (args_is P Q k.is))
    keeps (unfold_fix d1 d2 u d3) (sat_full F at z (args_kept l h g)) ct ct' = let k = keeps_args F at (omega arith) d1 h ct.0 ct'.0 in absurd (construct_not_unfolded (args_is P Q k.is) u)
    keeps (extend d1 d2 m) (sat_full F at z (args_kept l h g)) ct ct' = full_kept F at z (argument_kept F at (omega arith) l (keeps_args F at (omega arith) d1 h ct.0 ct'.0) (keeps d2 g ct.1.0 ct'.1.0))
    keeps (value i) sat_box ct ct' = record { w' = Box; n = 1; m = 0; ev = value box_is; is = sat_box }
    keeps (value i) (sat_lambda h) ct ct' = record { w' = _; n = 1; m = 0; ev = value lambda_is; is = sat_lambda h }
    keeps (value i) (sat_fix h) ct ct' = record { w' = _; n = 1; m = 0; ev = value fix_is; is = sat_fix h }
    keeps (value i) sat_rel ct ct' = elim i [ ]
    keeps (value i) (sat_let h g) ct ct' = elim i [ ]
    keeps (value i) (sat_app h g) ct ct' = elim i [ ]
    keeps (value i) sat_constant ct ct' = elim i [ ]
    keeps (value i) (sat_case h hs) ct ct' = elim i [ ]
    keeps (constant {k = k} {b = b} at d) sat_constant ct ct' =
        let c = constants k b at in
        let r = keeps d c.2 (closed k b at) (closed' k c.0 c.1) in
        record { w' = r.w'; n = _; m = _; ev = constant c.1 r.ev; is = r.is }
    keeps (let_in {t = u} {v = v} d1 d2) (sat_let {t' = u'} h g) ct ct' =
        let r1 = keeps d1 h ct.0 ct'.0 in
        let r2 = keeps d2 (sat_put P Q (sat_first P Q r1.is (sat_variables P Q)) g) (closed_put v u (closed_evaluates closed d1 ct.0) ct.1.0) (closed_put r1.w' u' (closed_evaluates closed' r1.ev ct'.0) ct'.1.0) in
        record { w' = r2.w'; n = _; m = _; ev = let_in r1.ev r2.ev; is = r2.is }
    keeps (beta {b = b} {v = v} d1 d2 d3) (sat_app h g) ct ct' =
        let cl = closed_put v b (closed_evaluates closed d2 ct.1.0) (closed_evaluates closed d1 ct.0).0 in
        beta_kept ct'.0 ct'.1.0 (keeps d1 h ct.0 ct'.0) (keeps d2 g ct.1.0 ct'.1.0) (λ b' v' cl' hb hv. keeps d3 (sat_put P Q (sat_first P Q hv (sat_variables P Q)) hb) cl cl')
    keeps (box_app d1 d2) (sat_app h g) ct ct' = box_kept (keeps d1 h ct.0 ct'.0) (keeps d2 g ct.1.0 ct'.1.0)
    keeps (extend d1 d2 (constructor f c xs F at lt e)) (sat_app h g) ct ct' =
        let k1 = keeps d1 h ct.0 ct'.0 in
        let count = ap length (constructor_arguments f c xs e) in
        waits_kept_one ct'.0 ct'.1.0 (closed_evaluates closed d2 ct.1.0) (result_of d2) k1 (keeps d2 g ct.1.0 ct'.1.0) (waiting_of k1.is (result_of k1.ev) F at (constructor_head xs e) (omega (arith, lt, count)))
    keeps (extend d1 d2 (fixpoint i rargs bodies xs at lt e)) (sat_app h g) ct ct' =
        let k1 = keeps d1 h ct.0 ct'.0 in
        let k2 = keeps d2 g ct.1.0 ct'.1.0 in
        let a = applied_fix i rargs bodies xs e k1.is in
        record { w' = _; n = _; m = _; ev = extend k1.ev k2.ev (fixpoint i rargs a.bs' a.xs' at (omega (arith, lt, sat_length P Q a.args)) a.is); is = sat_app k1.is k2.is }
    keeps (unfold_fix d1 d2 u d3) (sat_app h g) ct ct' =
        let k1 = keeps d1 h ct.0 ct'.0 in
        let k2 = keeps d2 g ct.1.0 ct'.1.0 in
        let x = unfolded k1.is k2.is u in
        let cl = closed_unfolds u (closed_evaluates closed d1 ct.0) (closed_evaluates closed d2 ct.1.0) in
        let cl' = closed_unfolds x.unfolds' (closed_evaluates closed' k1.ev ct'.0) (closed_evaluates closed' k2.ev ct'.1.0) in
        let r = keeps d3 x.is cl cl' in
        record { w' = r.w'; n = _; m = _; ev = unfold_fix k1.ev k2.ev x.unfolds' r.ev; is = r.is }
    keeps (enter {bs = bs} {c = c} {body = body} {xs = xs} d1 con at d2) (sat_case {bs' = bs'} h hs) ct ct' =
        let k1 = keeps d1 h ct.0 ct'.0 in
        let v = full_of k1.is (result_of k1.ev) con in
        let b = sat_at P Q c hs at in
        let at' = subst (λ n. term_at bs' c ≡ Some (n, b.t')) (sym (sat_length P Q v.args)) b.at in
        let cl = closed_put_all xs body (con_closed (closed_evaluates closed d1 ct.0) con) (closed_term_at 0 bs c (length xs) body ct.1.0 at) in
        let cl' = closed_put_all v.xs' b.t' (sat_closed_all (closed_evaluates closed' k1.ev ct'.0) v.is) (closed_term_at 0 bs' c (length v.xs') b.t' ct'.1.0 at') in
        let r = keeps d2 (sat_put P Q (sat_all P Q v.args (sat_variables P Q)) b.is) cl cl' in
        record { w' = r.w'; n = _; m = _; ev = enter k1.ev v.is at' r.ev; is = r.is }
    keeps (enter_only {k = k} {body = body} F p d1 d2) (sat_case h (sat_next {t' = b'} g sat_done)) ct ct' =
        let cl = closed_put_all (boxes k) body (closed_boxes k) (closed_at body (omega (arith, boxes_number k)) ct.1.0.0) in
        let cl' = closed_put_all (boxes k) b' (closed_boxes k) (closed_at b' (omega (arith, boxes_number k)) ct'.1.0.0) in
        only_kept k F p (keeps d1 h ct.0 ct'.0) (keeps d2 (sat_put P Q (sat_all P Q (sat_boxes P Q k) (sat_variables P Q)) g) cl cl')

    keeps_args : {f : FamilyId} {c l j : ℕ} {F : BoxFamily} {t t' w : BoxTerm} {n m : ℕ} → KeepsBoxFamily P f F → slice_get F.args c ≡ Some l → j ≤ F.params + l → BoxEvaluates P t w n m → SatArgs P Q f c F.params j t t' → Closed 0 t → Closed 0 t' → KeptArgs f c F.params j t' w
    keeps_args F at lt (constant at' d) h ct ct' = elim h [ ]
    keeps_args F at lt (let_in d1 d2) h ct ct' = elim h [ ]
    keeps_args F at lt (enter d1 con at' d2) h ct ct' = elim h [ ]
    keeps_args F at lt (enter_only G p d1 d2) h ct ct' = elim h [ ]
    keeps_args F at lt (value i) args_none ct ct' = head_kept
    keeps_args F at lt (value i) (args_dropped l h) ct ct' = elim i [ ]
    keeps_args F at lt (beta d1 d2 d3) (args_dropped l h) ct ct' = let k = keeps_args F at (omega arith) d1 h ct.0 ct' in absurd (no_lambda (args_is P Q k.is))
    keeps_args F at lt (box_app d1 d2) (args_dropped l h) ct ct' = let k = keeps_args F at (omega arith) d1 h ct.0 ct' in absurd (no_box (args_is P Q k.is))
    keeps_args F at lt (unfold_fix d1 d2 u d3) (args_dropped l h) ct ct' = let k = keeps_args F at (omega arith) d1 h ct.0 ct' in absurd (construct_not_unfolded (args_is P Q k.is) u)
    keeps_args F at lt (extend d1 d2 m) (args_dropped l h) ct ct' = dropped_kept l (keeps_args F at (omega arith) d1 h ct.0 ct')
    keeps_args F at lt (value i) (args_kept l h g) ct ct' = elim i [ ]
    keeps_args F at lt (beta d1 d2 d3) (args_kept l h g) ct ct' = let k = keeps_args F at (omega arith) d1 h ct.0 ct'.0 in absurd (no_lambda (args_is P Q k.is))
    keeps_args F at lt (box_app d1 d2) (args_kept l h g) ct ct' = let k = keeps_args F at (omega arith) d1 h ct.0 ct'.0 in absurd (no_box (args_is P Q k.is))
    keeps_args F at lt (unfold_fix d1 d2 u d3) (args_kept l h g) ct ct' = let k = keeps_args F at (omega arith) d1 h ct.0 ct'.0 in absurd (construct_not_unfolded (args_is P Q k.is) u)
    keeps_args F at lt (extend d1 d2 m) (args_kept l h g) ct ct' = argument_kept F at lt l (keeps_args F at (omega arith) d1 h ct.0 ct'.0) (keeps d2 g ct.1.0 ct'.1.0)

  -- what is read
  abbrev AllResults : List BoxTerm → Type 0
  AllResults [] = Unit {0}
  AllResults (x ∷ xs) = IsResult Q x × AllResults xs

  results_of : {f : BoxTerm} (xs : List BoxTerm) → IsResult Q (box_apply f xs) → IsResult Q f × AllResults xs
  results_of [] r = (r, tt)
  results_of {f} (x ∷ xs) r = let q = results_of xs r in go q.0 q.1
    where
      go : IsResult Q (BApp f x) → AllResults xs → IsResult Q f × AllResults (x ∷ xs)
      go (result_value i) rs = elim i [ ]
      go (result_more h g m) rs = (h, (g, rs))

  constructor_results : {f : FamilyId} {c : ℕ} {w : BoxTerm} {xs : List BoxTerm} → IsBoxConstructor Q f c w [] xs → IsResult Q w → AllResults xs
  constructor_results {f} {c} {w} {xs} (is_box_constructor k p a lq lx e) r = (results_of xs (subst (λ t. IsResult Q t) e r)).1

  mutual
    pub sat_reads : {w w' : BoxTerm} {d : Data} → IsResult Q w' → Sat P Q w w' → BoxReads P w d → BoxReads Q w' d
    sat_reads {w' = w'} r h (box_reads {c = c} {xs = xs} {ds = ds} con rs) =
        let v = full_of h r con in
        subst (λ n. BoxReads Q w' ((c, n) ∷ ds)) (sat_length P Q v.args) (box_reads v.is (sat_reads_all (constructor_results v.is r) v.args rs))

    sat_reads_all : {xs xs' : List BoxTerm} {ds : Data} → AllResults xs' → SatList P Q xs xs' → BoxReadsAll P xs ds → BoxReadsAll Q xs' ds
    sat_reads_all r sat_none no_box_field = no_box_field
    sat_reads_all r (sat_one h hs) (box_field d ds) = box_field (sat_reads r.0 h d) (sat_reads_all r.1 hs ds)
