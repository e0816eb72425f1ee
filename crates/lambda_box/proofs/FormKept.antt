-- The form of box programs is kept by evaluation: the value of a closed term of the form is one.
use Rattle.std.proofs.Common.{◌≡◌, ℕ, zero, suc, ◌+◌, ◌≤◌, List, [], ◌∷◌, ◌++◌, length, Some, sym, ◌∙◌, subst, arith}
use Rattle.std.proofs.lemmas.Option.{same_Some}
use Rattle.trees.specs.Tree.{Slot, Rel, Node, Places, End, Child, Group, Done, Next, term_at}
use Rattle.trees.specs.Parallel.{up, ups, rename, rename_children, rename_terms, over, overs, substitute, substitute_children, substitute_terms, first, put_all}
use Rattle.trees.specs.Closed.{Closed, ClosedTerms, ClosedEach}
use Rattle.trees.proofs.Bounds.{closed_at, Fits, substitute-closed, put_all_fits}
use Rattle.trees.proofs.Shape.{binders_renamed, binders_substituted}
use Rattle.box_terms.specs.BoxSyntax.{BoxLabel, box_slots, BoxOf, BLambdaOf, BLetInOf, BAppOf, BConstOf, BConstructOf, BCaseOf, BFixOf, BoxTerm, BoxTerms, BApp, BConstruct, BFix}
use Rattle.lambda_box.specs.BoxProgram.{BoxConstant, BoxFamily, BoxProgram, Has, NamesOnly, box_apply, boxes, box_fixpoints}
use Rattle.lambda_box.specs.BoxEvaluation.{is_box_constructor, BoxUnfolds, unfolds, box_unfolded, BoxEvaluates, value, constant, let_in, beta, box_app, extend, unfold_fix, enter, enter_only}
use Rattle.lambda_box.specs.BoxForm.{IsFixBody, boxed, last, more, AreFixBodies, FormAt, HasBoxForm, HasBoxFormChildren, HasBoxFormTerms, IsBoxBody}
use Rattle.lambda_box.specs.Laws.{ValuesHaveForm}
use Rattle.lambda_box.proofs.Spines.{boxes_number, fixpoints_number}
use Rattle.lambda_box.proofs.Naming.{named_put_list, named_at, EachNamed, ordered_body}

-- definitions of fixpoints

fix_body_renamed : {n : ℕ} {t : BoxTerm} → IsFixBody n t → (r : ℕ → ℕ) → IsFixBody n (rename r t)
fix_body_renamed boxed r = boxed
fix_body_renamed last r = last
fix_body_renamed (more h) r = more (fix_body_renamed h (up r))

fix_body_substituted : {n : ℕ} {t : BoxTerm} → IsFixBody n t → (s : ℕ → BoxTerm) → IsFixBody n (substitute s t)
fix_body_substituted boxed s = boxed
fix_body_substituted last s = last
fix_body_substituted (more h) s = more (fix_body_substituted h (over s))

fix_bodies_renamed : (n : ℕ) (rs : List ℕ) (ts : BoxTerms) (r : ℕ → ℕ) → AreFixBodies n rs ts → AreFixBodies n rs (rename_terms r ts)
fix_bodies_renamed n [] Done r h = tt
fix_bodies_renamed n [] (Next m t ts) r h = absurd h
fix_bodies_renamed n (k ∷ rs) Done r h = absurd h
fix_bodies_renamed n (k ∷ rs) (Next m t ts) r h = (h.0, fix_body_renamed h.1 (ups m r), fix_bodies_renamed n rs ts r h.2)

pub fix_bodies_substituted : (n : ℕ) (rs : List ℕ) (ts : BoxTerms) (s : ℕ → BoxTerm) → AreFixBodies n rs ts → AreFixBodies n rs (substitute_terms s ts)
fix_bodies_substituted n [] Done s h = tt
fix_bodies_substituted n [] (Next m t ts) s h = absurd h
fix_bodies_substituted n (k ∷ rs) Done s h = absurd h
fix_bodies_substituted n (k ∷ rs) (Next m t ts) s h = (h.0, fix_body_substituted h.1 (overs m s), fix_bodies_substituted n rs ts s h.2)

-- renaming and substitution

module _ (Fs : List BoxFamily) where
  form_at_renamed : (l : BoxLabel) (ts : Places BoxLabel box_slots (box_slots l)) (r : ℕ → ℕ) → FormAt Fs (Node l ts) → FormAt Fs (Node l (rename_children r ts))
  form_at_renamed BoxOf End r h = tt
  form_at_renamed BLambdaOf (Child b End) r h = tt
  form_at_renamed BLetInOf (Child b (Child t End)) r h = tt
  form_at_renamed BAppOf (Child f (Child a End)) r h = tt
  form_at_renamed (BConstOf k) End r h = tt
  form_at_renamed (BConstructOf f c) End r h = h
  form_at_renamed (BCaseOf f) (Child s (Group bs End)) r h = (h.0, h.1, h.2, binders_renamed bs r ∙ h.3)
  form_at_renamed (BFixOf i rargs) (Group bodies End) r h = (h.0, fix_bodies_renamed (length rargs) rargs bodies r h.1)

  mutual
    pub form_renamed : (t : BoxTerm) (r : ℕ → ℕ) → HasBoxForm Fs t → HasBoxForm Fs (rename r t)
    form_renamed (Rel i) r h = tt
    form_renamed (Node l ts) r h = (form_at_renamed l ts r h.0, form_renamed_children ts r h.1)

    form_renamed_children : {ss : List Slot} (ts : Places BoxLabel box_slots ss) (r : ℕ → ℕ) → HasBoxFormChildren Fs ts → HasBoxFormChildren Fs (rename_children r ts)
    form_renamed_children End r h = tt
    form_renamed_children (Child {n} t ts) r h = (form_renamed t (ups n r) h.0, form_renamed_children ts r h.1)
    form_renamed_children (Group us ts) r h = (form_renamed_terms us r h.0, form_renamed_children ts r h.1)

    form_renamed_terms : (ts : BoxTerms) (r : ℕ → ℕ) → HasBoxFormTerms Fs ts → HasBoxFormTerms Fs (rename_terms r ts)
    form_renamed_terms Done r h = tt
    form_renamed_terms (Next n t ts) r h = (form_renamed t (ups n r) h.0, form_renamed_terms ts r h.1)

  form_overs : (n : ℕ) (s : ℕ → BoxTerm) → ((i : ℕ) → HasBoxForm Fs (s i)) → (i : ℕ) → HasBoxForm Fs (overs n s i)
  form_overs zero s h i = h i
  form_overs (suc n) s h zero = tt
  form_overs (suc n) s h (suc i) = form_renamed (overs n s i) suc (form_overs n s h i)

  form_at_substituted : (l : BoxLabel) (ts : Places BoxLabel box_slots (box_slots l)) (s : ℕ → BoxTerm) → FormAt Fs (Node l ts) → FormAt Fs (Node l (substitute_children s ts))
  form_at_substituted BoxOf End s h = tt
  form_at_substituted BLambdaOf (Child b End) s h = tt
  form_at_substituted BLetInOf (Child b (Child t End)) s h = tt
  form_at_substituted BAppOf (Child f (Child a End)) s h = tt
  form_at_substituted (BConstOf k) End s h = tt
  form_at_substituted (BConstructOf f c) End s h = h
  form_at_substituted (BCaseOf f) (Child t (Group bs End)) s h = (h.0, h.1, h.2, binders_substituted bs s ∙ h.3)
  form_at_substituted (BFixOf i rargs) (Group bodies End) s h = (h.0, fix_bodies_substituted (length rargs) rargs bodies s h.1)

  mutual
    pub form_substituted : (t : BoxTerm) (s : ℕ → BoxTerm) → ((i : ℕ) → HasBoxForm Fs (s i)) → HasBoxForm Fs t → HasBoxForm Fs (substitute s t)
    form_substituted (Rel i) s g h = g i
    form_substituted (Node l ts) s g h = (form_at_substituted l ts s h.0, form_substituted_children ts s g h.1)

    form_substituted_children : {ss : List Slot} (ts : Places BoxLabel box_slots ss) (s : ℕ → BoxTerm) → ((i : ℕ) → HasBoxForm Fs (s i)) → HasBoxFormChildren Fs ts →
        HasBoxFormChildren Fs (substitute_children s ts)
    form_substituted_children End s g h = tt
    form_substituted_children (Child {n} t ts) s g h = (form_substituted t (overs n s) (form_overs n s g) h.0, form_substituted_children ts s g h.1)
    form_substituted_children (Group us ts) s g h = (form_substituted_terms us s g h.0, form_substituted_children ts s g h.1)

    form_substituted_terms : (ts : BoxTerms) (s : ℕ → BoxTerm) → ((i : ℕ) → HasBoxForm Fs (s i)) → HasBoxFormTerms Fs ts → HasBoxFormTerms Fs (substitute_terms s ts)
    form_substituted_terms Done s g h = tt
    form_substituted_terms (Next n t ts) s g h = (form_substituted t (overs n s) (form_overs n s g) h.0, form_substituted_terms ts s g h.1)

-- closed terms of the form, and lists of them

module _ (P : BoxProgram) where
  abbrev pub Body : BoxTerm → Type 0
  Body t = IsBoxBody P.families P.constants t

  abbrev pub EachBody : List BoxTerm → Type 0
  EachBody [] = Unit {0}
  EachBody (x ∷ xs) = Body x × EachBody xs

  each_closed : (xs : List BoxTerm) → EachBody xs → ClosedEach 0 xs
  each_closed [] h = tt
  each_closed (x ∷ xs) h = (h.0.closed, each_closed xs h.1)

  each_named : (xs : List BoxTerm) → EachBody xs → EachNamed P xs
  each_named [] h = tt
  each_named (x ∷ xs) h = (h.0.named, each_named xs h.1)

  form_put_all : (xs : List BoxTerm) (s : ℕ → BoxTerm) → EachBody xs → ((i : ℕ) → HasBoxForm P.families (s i)) → (i : ℕ) → HasBoxForm P.families (put_all xs s i)
  form_put_all [] s h g i = g i
  form_put_all (x ∷ xs) s h g i = form_put_all xs (first x s) h.1 next i
    where
      next : (i : ℕ) → HasBoxForm P.families (first x s i)
      next zero = h.0.form
      next (suc i) = g i

  no_variable : Fits {L = BoxLabel} {slots = box_slots} Rel 0 0
  no_variable i l = absurd (omega arith)

  -- closed terms of the form put in for all variables of a term of the form
  pub body_put_all : (xs : List BoxTerm) (t : BoxTerm) → EachBody xs → Closed (length xs) t → HasBoxForm P.families t → NamesOnly P.constants t → Body (substitute (put_all xs Rel) t)
  body_put_all xs t h c f n = record {
    closed = substitute-closed t (put_all xs Rel) (length xs + 0) 0 (put_all_fits xs Rel 0 0 no_variable (each_closed xs h)) (closed_at t (omega arith) c);
    form = form_substituted P.families t (put_all xs Rel) (form_put_all xs Rel h (λ i. tt)) f;
    named = named_put_list P t xs n (each_named xs h);
  }

  body_apply : (xs : List BoxTerm) (f : BoxTerm) → Body f → EachBody xs → Body (box_apply f xs)
  body_apply [] f h g = h
  body_apply (a ∷ xs) f h g =
      body_apply xs (BApp f a)
      (record { closed = (h.closed, (g.0.closed, tt)); form = (tt, (h.form, (g.0.form, tt))); named = (tt, (h.named, (g.0.named, tt))) }) g.1

  of_body_apply : (xs : List BoxTerm) (f : BoxTerm) → Body (box_apply f xs) → Body f × EachBody xs
  of_body_apply [] f h = (h, tt)
  of_body_apply (a ∷ xs) f h =
      let r = of_body_apply xs (BApp f a) h in (
        record { closed = r.0.closed.0; form = r.0.form.1.0; named = r.0.named.1.0 },
        (record { closed = r.0.closed.1.0; form = r.0.form.1.1.0; named = r.0.named.1.1.0 }, r.1),
      )

  each_body_append : (xs ys : List BoxTerm) → EachBody (xs ++ ys) → EachBody ys
  each_body_append [] ys h = h
  each_body_append (x ∷ xs) ys h = each_body_append xs ys h.1

  closed_term_at : (ts : BoxTerms) (i m : ℕ) (t : BoxTerm) → ClosedTerms 0 ts → term_at ts i ≡ Some (m, t) → Closed m t
  closed_term_at Done i m t c e = absurd (cc)
  closed_term_at (Next n u ts) zero m t c e =
      let q : (n, u) ≡ (m, t) = same_Some _ _ e in subst (λ p. Closed p.0 p.1) q (closed_at u (omega arith) c.0)
  closed_term_at (Next n u ts) (suc i) m t c e = closed_term_at ts i m t c.1 e

  form_term_at : (ts : BoxTerms) (i m : ℕ) (t : BoxTerm) → HasBoxFormTerms P.families ts → term_at ts i ≡ Some (m, t) → HasBoxForm P.families t
  form_term_at Done i m t h e = absurd (cc)
  form_term_at (Next n u ts) zero m t h e = let q : (n, u) ≡ (m, t) = same_Some _ _ e in subst (λ p. HasBoxForm P.families p.1) q h.0
  form_term_at (Next n u ts) (suc i) m t h e = form_term_at ts i m t h.1 e

  each_box : (n : ℕ) → EachBody (boxes n)
  each_box zero = tt
  each_box (suc n) = (record { closed = tt; form = (tt, tt); named = (tt, tt) }, each_box n)

  each_fixpoint : (i n k : ℕ) (rargs : List ℕ) (bodies : BoxTerms) → Body (BFix k rargs bodies) → i + n ≤ length rargs → EachBody (box_fixpoints i n rargs bodies)
  each_fixpoint i zero k rargs bodies h l = tt
  each_fixpoint i (suc n) k rargs bodies h l =
      (record { closed = h.closed; form = ((omega arith, h.form.0.1), h.form.1); named = h.named }, each_fixpoint (suc i) n k rargs bodies h (omega arith))

  body_unfolds : {g v u : BoxTerm} → BoxUnfolds g v u → Body g → Body v → Body u
  body_unfolds {g} {v} (unfolds i rargs bodies xs {body = t} r l b e) hg hv =
      let parts = of_body_apply xs (BFix i rargs bodies) (subst Body e hg) in
      let h = parts.0 in
      let body = body_put_all (box_fixpoints 0 (length rargs) rargs bodies) t (each_fixpoint 0 (length rargs) i rargs bodies h (omega arith))
      (subst (λ n. Closed n t) (sym (fixpoints_number 0 (length rargs) rargs bodies)) (closed_term_at bodies i (length rargs) t h.closed.0 b))
      (form_term_at bodies i (length rargs) t h.form.1.0 b) (named_at P bodies i (length rargs) t h.named.1.0 b) in
      let whole = body_apply xs (box_unfolded rargs bodies t) body parts.1 in
      record { closed = (whole.closed, (hv.closed, tt)); form = (tt, (whole.form, (hv.form, tt))); named = (tt, (whole.named, (hv.named, tt))) }

  pub value_body : ((k : BoxConstant) → Has P.constants k → Body k.body) → {t w : BoxTerm} {n m : ℕ} → BoxEvaluates P t w n m → Body t → Body w
  value_body H (value i) h = h
  value_body H (constant k e) h = value_body H e (H _ k)
  value_body H (let_in {b = b} {t = t} {v = v} e e') h =
      let g = value_body H e (record { closed = h.closed.0; form = h.form.1.0; named = h.named.1.0 }) in
      value_body H e' (body_put_all (v ∷ []) t (g, tt) h.closed.1.0 h.form.1.1.0 h.named.1.1.0)
  value_body H (beta {b = b} {v = v} e e' e'') h =
      let f = value_body H e (record { closed = h.closed.0; form = h.form.1.0; named = h.named.1.0 }) in
      let g = value_body H e' (record { closed = h.closed.1.0; form = h.form.1.1.0; named = h.named.1.1.0 }) in
      value_body H e'' (body_put_all (v ∷ []) b (g, tt) f.closed.0 f.form.1.0 f.named.1.0)
  value_body H (box_app e e') h = record { closed = tt; form = (tt, tt); named = (tt, tt) }
  value_body H (extend e e' m) h =
      let f = value_body H e (record { closed = h.closed.0; form = h.form.1.0; named = h.named.1.0 }) in
      let g = value_body H e' (record { closed = h.closed.1.0; form = h.form.1.1.0; named = h.named.1.1.0 }) in
      record { closed = (f.closed, (g.closed, tt)); form = (tt, (f.form, (g.form, tt))); named = (tt, (f.named, (g.named, tt))) }
  value_body H (unfold_fix e e' u e'') h =
      let f = value_body H e (record { closed = h.closed.0; form = h.form.1.0; named = h.named.1.0 }) in
      let g = value_body H e' (record { closed = h.closed.1.0; form = h.form.1.1.0; named = h.named.1.1.0 }) in
      value_body H e'' (body_unfolds u f g)
  value_body H (enter {f = f} {bs = bs} {c = c} {body = t} {qs = qs} {xs = xs} e (is_box_constructor k o i p a q) b e') h =
      let s = value_body H e (record { closed = h.closed.0; form = h.form.1.0; named = h.named.1.0 }) in
      let parts = each_body_append qs xs (of_body_apply (qs ++ xs) (BConstruct f c) (subst Body q s)).1 in
      value_body H e'
      (body_put_all xs t parts (closed_term_at bs c (length xs) t h.closed.1.0 b) (form_term_at bs c (length xs) t h.form.1.1.0 b) (named_at P bs c (length xs) t h.named.1.1.0 b))
  value_body H (enter_only {k = n} {body = t} k p e e') h =
      value_body H e'
      (body_put_all (boxes n) t (each_box n) (subst (λ n. Closed n t) (sym (boxes_number n)) (closed_at t (omega arith) h.closed.1.0.0)) h.form.1.1.0.0 h.named.1.1.0.0)

pub values_have_form : ValuesHaveForm
values_have_form P h t w n m e b = value_body P (λ d k. ordered_body P.families P.constants h.constants d k) e b
