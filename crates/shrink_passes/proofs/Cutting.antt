-- An argument cut from the uses of a constant: nodes, depth and form.
use Rattle.std.proofs.Common.{◌≡◌, ℕ, zero, suc, ◌+◌, ◌≤◌, Bool, true, false, List, [], ◌∷◌, length, Some, subst, refl, ap, ◌∙◌, arith}
use Rattle.std.proofs.lemmas.Bool.{and_parts, and_from}
use Rattle.std.proofs.lemmas.Option.{same_Some}
use Rattle.std.specs.Prelude.{nat_eq, if◌then◌else◌}
use Rattle.trees.specs.Tree.{Rel, Done, Next, term_at}
use Rattle.trees.specs.Parallel.{overs, substitute, substitute_terms}
use Rattle.trees.specs.Measures.{nodes, nodes_trees, depth, depth_trees}
use Rattle.trees.specs.Closed.{Closed, ClosedTerms, EveryTerm}
use Rattle.trees.specs.Shape.{binders_of}
use Rattle.trees.proofs.Bounds.{closed_at}
use Rattle.box_terms.specs.BoxSyntax.{BoxTerm, BoxTerms, Box, BLambda, BLetIn, BApp, BConst, BConstruct, BCase, BFix}
use Rattle.lambda_box.specs.BoxProgram.{BoxConstant, BoxFamily, NamesKept, NamesOnly}
use Rattle.lambda_box.specs.BoxForm.{IsFixBody, boxed, last, more, AreFixBodies, HasBoxForm, HasBoxFormTerms, IsBoxBody}
use Rattle.lambda_box.specs.SaturatedForm.{IsSaturatedAt, AreSaturated}
use Rattle.lambda_box.specs.OrdinaryForm.{IsOrdinary, AreOrdinary}
use Rattle.shrink_passes.specs.Uses.{uses, uses_terms}
use Rattle.shrink_passes.specs.DropParams.{is_spine, box_at, fits, fits_terms, cut, cut_terms}

module _ (k p : ℕ) where
  mutual
    pub cut_nodes : (t : BoxTerm) → nodes (cut k p t) ≤ nodes t
    cut_nodes (Rel i) = omega arith
    cut_nodes Box = omega arith
    cut_nodes (BLambda b) = omega (arith, cut_nodes b)
    cut_nodes (BLetIn a t) = omega (arith, cut_nodes a, cut_nodes t)
    cut_nodes (BApp f a) = either (is_spine k f p) (cut_nodes f) (cut_nodes a)
      where
        either : (z : Bool) → nodes (cut k p f) ≤ nodes f → nodes (cut k p a) ≤ nodes a → nodes (if z then cut k p f else BApp (cut k p f) (cut k p a)) ≤ nodes (BApp f a)
        either true x y = omega arith
        either false x y = omega arith
    cut_nodes (BConst c) = omega arith
    cut_nodes (BConstruct f c) = omega arith
    cut_nodes (BCase f s bs) = omega (arith, cut_nodes s, cut_nodes_terms bs)
    cut_nodes (BFix i rargs bodies) = omega (arith, cut_nodes_terms bodies)

    cut_nodes_terms : (ts : BoxTerms) → nodes_trees (cut_terms k p ts) ≤ nodes_trees ts
    cut_nodes_terms Done = omega arith
    cut_nodes_terms (Next n t ts) = omega (arith, cut_nodes t, cut_nodes_terms ts)

  mutual
    pub cut_depth : (t : BoxTerm) → depth (cut k p t) ≤ depth t
    cut_depth (Rel i) = omega arith
    cut_depth Box = omega arith
    cut_depth (BLambda b) = omega (arith, cut_depth b)
    cut_depth (BLetIn a t) = omega (arith, cut_depth a, cut_depth t)
    cut_depth (BApp f a) = either (is_spine k f p) (cut_depth f) (cut_depth a)
      where
        either : (z : Bool) → depth (cut k p f) ≤ depth f → depth (cut k p a) ≤ depth a → depth (if z then cut k p f else BApp (cut k p f) (cut k p a)) ≤ depth (BApp f a)
        either true x y = omega arith
        either false x y = omega arith
    cut_depth (BConst c) = omega arith
    cut_depth (BConstruct f c) = omega arith
    cut_depth (BCase f s bs) = omega (arith, cut_depth s, cut_depth_terms bs)
    cut_depth (BFix i rargs bodies) = omega (arith, cut_depth_terms bodies)

    cut_depth_terms : (ts : BoxTerms) → depth_trees (cut_terms k p ts) ≤ depth_trees ts
    cut_depth_terms Done = omega arith
    cut_depth_terms (Next n t ts) = omega (arith, cut_depth t, cut_depth_terms ts)

  mutual
    pub cut_closed : (m : ℕ) (t : BoxTerm) → Closed m t → Closed m (cut k p t)
    cut_closed m (Rel i) c = c
    cut_closed m Box c = tt
    cut_closed m (BLambda b) c = (cut_closed (1 + m) b c.0, tt)
    cut_closed m (BLetIn a t) c = (cut_closed (0 + m) a c.0, (cut_closed (1 + m) t c.1.0, tt))
    cut_closed m (BApp f a) c = either (is_spine k f p) (cut_closed (0 + m) f c.0) (cut_closed (0 + m) a c.1.0)
      where
        either : (z : Bool) → Closed (0 + m) (cut k p f) → Closed (0 + m) (cut k p a) → Closed m (if z then cut k p f else BApp (cut k p f) (cut k p a))
        either true x y = closed_at (cut k p f) (omega arith) x
        either false x y = (x, (y, tt))
    cut_closed m (BConst c') c = tt
    cut_closed m (BConstruct f i) c = tt
    cut_closed m (BCase f s bs) c = (cut_closed (0 + m) s c.0, (cut_closed_terms m bs c.1.0, tt))
    cut_closed m (BFix i rargs bodies) c = (cut_closed_terms m bodies c.0, tt)

    cut_closed_terms : (m : ℕ) (ts : BoxTerms) → ClosedTerms m ts → ClosedTerms m (cut_terms k p ts)
    cut_closed_terms m Done c = tt
    cut_closed_terms m (Next n t ts) c = (cut_closed (n + m) t c.0, cut_closed_terms m ts c.1)

  binders_cut : (ts : BoxTerms) → binders_of (cut_terms k p ts) ≡ binders_of ts
  binders_cut Done = refl
  binders_cut (Next n t ts) = ap (◌∷◌ n) (binders_cut ts)

  fix_body_cut : {r : ℕ} {t : BoxTerm} → IsFixBody r t → IsFixBody r (cut k p t)
  fix_body_cut boxed = boxed
  fix_body_cut last = last
  fix_body_cut (more h) = more (fix_body_cut h)

  fix_bodies_cut : (n : ℕ) (rs : List ℕ) (ts : BoxTerms) → AreFixBodies n rs ts → AreFixBodies n rs (cut_terms k p ts)
  fix_bodies_cut n [] Done h = tt
  fix_bodies_cut n [] (Next m t ts) h = absurd h
  fix_bodies_cut n (r ∷ rs) Done h = absurd h
  fix_bodies_cut n (r ∷ rs) (Next m t ts) h = (h.0, fix_body_cut h.1, fix_bodies_cut n rs ts h.2)

  mutual
    pub cut_form : (Fs : List BoxFamily) (t : BoxTerm) → HasBoxForm Fs t → HasBoxForm Fs (cut k p t)
    cut_form Fs (Rel i) h = tt
    cut_form Fs Box h = h
    cut_form Fs (BLambda t) h = (tt, (cut_form Fs t h.1.0, tt))
    cut_form Fs (BLetIn a t) h = (tt, (cut_form Fs a h.1.0, (cut_form Fs t h.1.1.0, tt)))
    cut_form Fs (BApp f a) h = either (is_spine k f p) (cut_form Fs f h.1.0) (cut_form Fs a h.1.1.0)
      where
        either : (z : Bool) → HasBoxForm Fs (cut k p f) → HasBoxForm Fs (cut k p a) → HasBoxForm Fs (if z then cut k p f else BApp (cut k p f) (cut k p a))
        either true x y = x
        either false x y = (tt, (x, (y, tt)))
    cut_form Fs (BConst c) h = h
    cut_form Fs (BConstruct f i) h = h
    cut_form Fs (BCase f s bs) h = ((h.0.0, h.0.1, h.0.2, binders_cut bs ∙ h.0.3), (cut_form Fs s h.1.0, (cut_form_terms Fs bs h.1.1.0, tt)))
    cut_form Fs (BFix i rargs bodies) h = ((h.0.0, fix_bodies_cut (length rargs) rargs bodies h.0.1), (cut_form_terms Fs bodies h.1.0, tt))

    cut_form_terms : (Fs : List BoxFamily) (ts : BoxTerms) → HasBoxFormTerms Fs ts → HasBoxFormTerms Fs (cut_terms k p ts)
    cut_form_terms Fs Done h = tt
    cut_form_terms Fs (Next n t ts) h = (cut_form Fs t h.0, cut_form_terms Fs ts h.1)

  mutual
    pub cut_named : (cs : List BoxConstant) (t : BoxTerm) → NamesOnly cs t → NamesOnly cs (cut k p t)
    cut_named cs (Rel i) h = tt
    cut_named cs Box h = h
    cut_named cs (BLambda t) h = (tt, (cut_named cs t h.1.0, tt))
    cut_named cs (BLetIn a t) h = (tt, (cut_named cs a h.1.0, (cut_named cs t h.1.1.0, tt)))
    cut_named cs (BApp f a) h = either (is_spine k f p) (cut_named cs f h.1.0) (cut_named cs a h.1.1.0)
      where
        either : (z : Bool) → NamesOnly cs (cut k p f) → NamesOnly cs (cut k p a) → NamesOnly cs (if z then cut k p f else BApp (cut k p f) (cut k p a))
        either true x y = x
        either false x y = (tt, (x, (y, tt)))
    cut_named cs (BConst c) h = h
    cut_named cs (BConstruct f i) h = h
    cut_named cs (BCase f s bs) h = (tt, (cut_named cs s h.1.0, (cut_named_terms cs bs h.1.1.0, tt)))
    cut_named cs (BFix i rargs bodies) h = (tt, (cut_named_terms cs bodies h.1.0, tt))

    cut_named_terms : (cs : List BoxConstant) (ts : BoxTerms) → EveryTerm (NamesKept cs) ts → EveryTerm (NamesKept cs) (cut_terms k p ts)
    cut_named_terms cs Done h = tt
    cut_named_terms cs (Next n t ts) h = (cut_named cs t h.0, cut_named_terms cs ts h.1)

  -- a spine is of the constant, so it is saturated as the head of any arguments
  spine_saturated : (Fs : List BoxFamily) (q n m : ℕ) (t : BoxTerm) → is_spine k t q ≡ true → IsSaturatedAt Fs n t → IsSaturatedAt Fs m t
  spine_saturated Fs q n m (BConst c) e h = tt
  spine_saturated Fs (suc q) n m (BApp f a) e h = (spine_saturated Fs q (suc n) (suc m) f e h.0, h.1)
  spine_saturated Fs zero n m (BApp f a) e h = absurd (cc)
  spine_saturated Fs q n m (Rel i) e h = absurd (cc)
  spine_saturated Fs q n m Box e h = absurd (cc)
  spine_saturated Fs q n m (BLambda b) e h = absurd (cc)
  spine_saturated Fs q n m (BLetIn b t) e h = absurd (cc)
  spine_saturated Fs q n m (BConstruct f c) e h = absurd (cc)
  spine_saturated Fs q n m (BCase f s bs) e h = absurd (cc)
  spine_saturated Fs q n m (BFix i rargs bodies) e h = absurd (cc)

  mutual
    pub cut_saturated : (Fs : List BoxFamily) (n : ℕ) (t : BoxTerm) → IsSaturatedAt Fs n t → IsSaturatedAt Fs n (cut k p t)
    cut_saturated Fs n (Rel i) h = tt
    cut_saturated Fs n Box h = tt
    cut_saturated Fs n (BLambda t) h = cut_saturated Fs 0 t h
    cut_saturated Fs n (BLetIn a t) h = (cut_saturated Fs 0 a h.0, cut_saturated Fs 0 t h.1)
    cut_saturated Fs n (BApp f a) h = either (is_spine k f p) refl (λ e. cut_saturated Fs n f (spine_saturated Fs p (suc n) n f e h.0)) (cut_saturated Fs (suc n) f h.0) (cut_saturated Fs 0 a h.1)
      where
        either : (z : Bool) → is_spine k f p ≡ z → (is_spine k f p ≡ true → IsSaturatedAt Fs n (cut k p f)) → IsSaturatedAt Fs (suc n) (cut k p f) → IsSaturatedAt Fs 0 (cut k p a) → IsSaturatedAt Fs n (if z then cut k p f else BApp (cut k p f) (cut k p a))
        either true e w x y = w e
        either false e w x y = (x, y)
    cut_saturated Fs n (BConst c) h = tt
    cut_saturated Fs n (BConstruct f c) h = h
    cut_saturated Fs n (BCase f s bs) h = (cut_saturated Fs 0 s h.0, cut_saturated_terms Fs bs h.1)
    cut_saturated Fs n (BFix i rargs bodies) h = cut_saturated_terms Fs bodies h

    cut_saturated_terms : (Fs : List BoxFamily) (ts : BoxTerms) → AreSaturated Fs ts → AreSaturated Fs (cut_terms k p ts)
    cut_saturated_terms Fs Done h = tt
    cut_saturated_terms Fs (Next n t ts) h = (cut_saturated Fs 0 t h.0, cut_saturated_terms Fs ts h.1)

  mutual
    pub cut_ordinary : (Fs : List BoxFamily) (t : BoxTerm) → IsOrdinary Fs t → IsOrdinary Fs (cut k p t)
    cut_ordinary Fs (Rel i) h = tt
    cut_ordinary Fs Box h = tt
    cut_ordinary Fs (BLambda t) h = cut_ordinary Fs t h
    cut_ordinary Fs (BLetIn a t) h = (cut_ordinary Fs a h.0, cut_ordinary Fs t h.1)
    cut_ordinary Fs (BApp f a) h = either (is_spine k f p) (cut_ordinary Fs f h.0) (cut_ordinary Fs a h.1)
      where
        either : (z : Bool) → IsOrdinary Fs (cut k p f) → IsOrdinary Fs (cut k p a) → IsOrdinary Fs (if z then cut k p f else BApp (cut k p f) (cut k p a))
        either true x y = x
        either false x y = (x, y)
    cut_ordinary Fs (BConst c) h = tt
    cut_ordinary Fs (BConstruct f c) h = tt
    cut_ordinary Fs (BCase f s bs) h = ((λ q. ap (cut_terms k p) (h.0 q)), cut_ordinary Fs s h.1, cut_ordinary_terms Fs bs h.2)
    cut_ordinary Fs (BFix i rargs bodies) h = cut_ordinary_terms Fs bodies h

    cut_ordinary_terms : (Fs : List BoxFamily) (ts : BoxTerms) → AreOrdinary Fs ts → AreOrdinary Fs (cut_terms k p ts)
    cut_ordinary_terms Fs Done h = tt
    cut_ordinary_terms Fs (Next n t ts) h = (cut_ordinary Fs t h.0, cut_ordinary_terms Fs ts h.1)

  pub cut_body : (Fs : List BoxFamily) (cs : List BoxConstant) (t : BoxTerm) → IsBoxBody Fs cs t → IsBoxBody Fs cs (cut k p t)
  cut_body Fs cs t h = record { closed = cut_closed 0 t h.closed; form = cut_form Fs t h.form; named = cut_named cs t h.named }

  -- without a use

  spine_used : (q : ℕ) (t : BoxTerm) → is_spine k t q ≡ true → 1 ≤ uses k t
  spine_used zero (BConst c) e = one (nat_eq c.0 k) e
    where
      one : (z : Bool) → z ≡ true → 1 ≤ (if◌then◌else◌ {A = ℕ} z 1 0)
      one true e = omega arith
      one false e = absurd (cc)
  spine_used (suc q) (BApp f a) e = omega (arith, spine_used q f e)
  spine_used (suc q) (BConst c) e = absurd (cc)
  spine_used zero (BApp f a) e = absurd (cc)
  spine_used q (Rel i) e = absurd (cc)
  spine_used q Box e = absurd (cc)
  spine_used q (BLambda b) e = absurd (cc)
  spine_used q (BLetIn b t) e = absurd (cc)
  spine_used q (BConstruct f c) e = absurd (cc)
  spine_used q (BCase f s bs) e = absurd (cc)
  spine_used q (BFix i rargs bodies) e = absurd (cc)

  mutual
    pub cut_unused : (t : BoxTerm) → uses k t ≡ 0 → cut k p t ≡ t
    cut_unused (Rel i) e = refl
    cut_unused Box e = refl
    cut_unused (BLambda b) e = ap BLambda (cut_unused b e)
    cut_unused (BLetIn a t) e = λ i. BLetIn (cut_unused a (omega arith) i) (cut_unused t (omega arith) i)
    cut_unused (BApp f a) e = either (is_spine k f p) refl (cut_unused f (omega arith)) (cut_unused a (omega arith))
      where
        either : (z : Bool) → is_spine k f p ≡ z → cut k p f ≡ f → cut k p a ≡ a → (if z then cut k p f else BApp (cut k p f) (cut k p a)) ≡ BApp f a
        either true s x y = absurd (omega (arith, spine_used p f s, e))
        either false s x y = λ i. BApp (x i) (y i)
    cut_unused (BConst c) e = refl
    cut_unused (BConstruct f c) e = refl
    cut_unused (BCase f s bs) e = λ i. BCase f (cut_unused s (omega arith) i) (cut_unused_terms bs (omega arith) i)
    cut_unused (BFix j rargs bodies) e = λ i. BFix j rargs (cut_unused_terms bodies e i)

    cut_unused_terms : (ts : BoxTerms) → uses_terms k ts ≡ 0 → cut_terms k p ts ≡ ts
    cut_unused_terms Done e = refl
    cut_unused_terms (Next n t ts) e = λ i. Next n (cut_unused t (omega arith) i) (cut_unused_terms ts (omega arith) i)

  mutual
    pub fits_unused : (xs : List BoxTerm) (t : BoxTerm) → uses k t ≡ 0 → fits k p xs t ≡ true
    fits_unused xs (Rel i) e = refl
    fits_unused xs Box e = refl
    fits_unused xs (BLambda b) e = fits_unused [] b e
    fits_unused xs (BLetIn a t) e = and_from (fits k p [] a) (fits k p [] t) (fits_unused [] a (omega arith)) (fits_unused [] t (omega arith))
    fits_unused xs (BApp f a) e = and_from (fits k p (a ∷ xs) f) (fits k p [] a) (fits_unused (a ∷ xs) f (omega arith)) (fits_unused [] a (omega arith))
    fits_unused xs (BConst c) e = either (nat_eq c.0 k) e
      where
        either : (z : Bool) → (if◌then◌else◌ {A = ℕ} z 1 0) ≡ 0 → (if z then box_at p xs else true) ≡ true
        either true e = absurd (omega arith)
        either false e = refl
    fits_unused xs (BConstruct f c) e = refl
    fits_unused xs (BCase f s bs) e = and_from (fits k p [] s) (fits_terms k p bs) (fits_unused [] s (omega arith)) (fits_unused_terms bs (omega arith))
    fits_unused xs (BFix j rargs bodies) e = fits_unused_terms bodies e

    fits_unused_terms : (ts : BoxTerms) → uses_terms k ts ≡ 0 → fits_terms k p ts ≡ true
    fits_unused_terms Done e = refl
    fits_unused_terms (Next n t ts) e = and_from (fits k p [] t) (fits_terms k p ts) (fits_unused [] t (omega arith)) (fits_unused_terms ts (omega arith))

  -- a spine of q arguments that fits has box as argument p, which is argument m of those that follow
  pub spine_box : (q m : ℕ) (xs : List BoxTerm) (t : BoxTerm) → p ≡ q + m → is_spine k t q ≡ true → fits k p xs t ≡ true → box_at m xs ≡ true
  spine_box zero m xs (BConst c) e s h = here (nat_eq c.0 k) s h
    where
      here : (z : Bool) → z ≡ true → (if z then box_at p xs else true) ≡ true → box_at m xs ≡ true
      here true s h = let q : m ≡ p = omega (arith, e) in ap (λ n. box_at n xs) q ∙ h
      here false s h = absurd (cc)
  spine_box (suc q) m xs (BApp f a) e s h = spine_box q (suc m) (a ∷ xs) f (omega arith) s (and_parts (fits k p (a ∷ xs) f) (fits k p [] a) h).0
  spine_box (suc q) m xs (BConst c) e s h = absurd (cc)
  spine_box zero m xs (BApp f a) e s h = absurd (cc)
  spine_box q m xs (Rel i) e s h = absurd (cc)
  spine_box q m xs Box e s h = absurd (cc)
  spine_box q m xs (BLambda b) e s h = absurd (cc)
  spine_box q m xs (BLetIn b t) e s h = absurd (cc)
  spine_box q m xs (BConstruct f c) e s h = absurd (cc)
  spine_box q m xs (BCase f t bs) e s h = absurd (cc)
  spine_box q m xs (BFix i rargs bodies) e s h = absurd (cc)

  -- a use has one number of arguments
  pub one_spine : (t : BoxTerm) (q r : ℕ) → is_spine k t q ≡ true → is_spine k t r ≡ true → q ≡ r
  one_spine (BConst c) zero zero e g = refl
  one_spine (BConst c) zero (suc r) e g = absurd (cc)
  one_spine (BConst c) (suc q) r e g = absurd (cc)
  one_spine (BApp f a) zero r e g = absurd (cc)
  one_spine (BApp f a) (suc q) zero e g = absurd (cc)
  one_spine (BApp f a) (suc q) (suc r) e g = ap suc (one_spine f q r e g)
  one_spine (Rel i) q r e g = absurd (cc)
  one_spine Box q r e g = absurd (cc)
  one_spine (BLambda b) q r e g = absurd (cc)
  one_spine (BLetIn b t) q r e g = absurd (cc)
  one_spine (BConstruct f c) q r e g = absurd (cc)
  one_spine (BCase f s bs) q r e g = absurd (cc)
  one_spine (BFix i rargs bodies) q r e g = absurd (cc)

  -- a tree of a list

  pub cut_at : (s : ℕ → BoxTerm) (ts : BoxTerms) (i n : ℕ) (t : BoxTerm) → term_at ts i ≡ Some (n, t) → term_at (substitute_terms s (cut_terms k p ts)) i ≡ Some (n, substitute (overs n s) (cut k p t))
  cut_at s Done i n t e = absurd (cc)
  cut_at s (Next m u ts) zero n t e = ap (λ q. Some (q.0, substitute (overs q.0 s) (cut k p q.1))) (same_Some _ _ e)
  cut_at s (Next m u ts) (suc i) n t e = cut_at s ts i n t e

  pub fits_at : (ts : BoxTerms) (i n : ℕ) (t : BoxTerm) → fits_terms k p ts ≡ true → term_at ts i ≡ Some (n, t) → fits k p [] t ≡ true
  fits_at Done i n t f e = absurd (cc)
  fits_at (Next m u ts) zero n t f e = subst (λ (q : ℕ × BoxTerm). fits k p [] q.1 ≡ true) (same_Some _ _ e) (and_parts (fits k p [] u) (fits_terms k p ts) f).0
  fits_at (Next m u ts) (suc i) n t f e = fits_at ts i n t (and_parts (fits k p [] u) (fits_terms k p ts) f).1 e
