-- What a term becomes without its matches on propositional families, by its former; and that it is within the limits.
use Rattle.std.proofs.Common.{◌≡◌, ◌≤◌, ◌<◌, ◌+◌, ◌⊎◌, inl, inr, ℕ, zero, suc, Bool, true, false, List, [], ◌∷◌, ◌++◌, length, map, get_or, refl, sym, ap, ◌∙◌, subst as along, arith}
use Rattle.trees.specs.Tree.{Slot, Rel, Node, Places, End, Child, Group, Done, Next}
use Rattle.trees.specs.Parallel.{ups, rename, rename_children, rename_terms, overs, first, put_all, substitute, substitute_children, substitute_terms}
use Rattle.trees.specs.Measures.{above, above_places, above_trees, IsWithin, IsBeyond}
use Rattle.trees.specs.Substitution.{subst_list}
use Rattle.trees.proofs.Cutoffs.{subst_list-substitute}
use Rattle.pc_terms.specs.declared.leaf.FamilyId.{FamilyId}
use Rattle.box_terms.specs.BoxSyntax.{BoxLabel, box_slots, BoxTerm, BoxTerms, Box, BLambda, BLetIn, BApp, BConst, BConstruct, BCase, BFix}
use Rattle.box_terms.specs.BoxLists.{arms_of, bodies_of, rargs_of}
use Rattle.box_terms.specs.declared.term.BoxBranch.{BoxBranch}
use Rattle.box_terms.specs.declared.term.BoxDef.{BoxDef}
use Rattle.lambda_box.specs.BoxProgram.{BoxFamily, boxes}
use Rattle.lambda_box.specs.OrdinaryForm.{family_of}
use Rattle.lambda_box.specs.OrdinaryForm.{propositional_of}
use Rattle.box_passes.specs.PropMatch.{only_branch, match_of, drop_matches, drop_matches_terms}
use Rattle.box_passes.proofs.PropMatchForm.{prop_match_sizes}
use Rattle.box_passes.specs.Maps.{map_branch, map_def}
use Rattle.box_passes.proofs.Maps.{rargs_map, length_map}

pub boxes_more : (n : ℕ) → boxes (n + 1) ≡ boxes n ++ (Box ∷ [])
boxes_more n = let e : n + 1 ≡ suc n = omega arith in ap boxes e ∙ last n
  where
    last : (n : ℕ) → boxes (suc n) ≡ boxes n ++ (Box ∷ [])
    last zero = refl
    last (suc n) = ap (◌∷◌ Box) (last n)

pub arms_dropped : (Fs : List BoxFamily) (bs : List BoxBranch) → drop_matches_terms Fs (arms_of bs) ≡ arms_of (map (map_branch (drop_matches Fs)) bs)
arms_dropped Fs [] = refl
arms_dropped Fs (b ∷ bs) = ap (Next b.binders (drop_matches Fs b.body)) (arms_dropped Fs bs)

bodies_dropped : (Fs : List BoxFamily) (m : ℕ) (ds : List BoxDef) → drop_matches_terms Fs (bodies_of m ds) ≡ bodies_of m (map (map_def (drop_matches Fs)) ds)
bodies_dropped Fs m [] = refl
bodies_dropped Fs m (d ∷ ds) = ap (Next m (drop_matches Fs d.body)) (bodies_dropped Fs m ds)

pub fix_dropped : (Fs : List BoxFamily) (ds es : List BoxDef) (i : ℕ) → es ≡ map (map_def (drop_matches Fs)) ds →
    BFix i (rargs_of es) (bodies_of (length es) es) ≡ drop_matches Fs (BFix i (rargs_of ds) (bodies_of (length ds) ds))
fix_dropped Fs ds es i e =
    ap (λ es. BFix i (rargs_of es) (bodies_of (length es) es)) e
    ∙ ap (λ rs. BFix i rs (bodies_of (length (map (map_def (drop_matches Fs)) ds)) (map (map_def (drop_matches Fs)) ds))) (rargs_map (drop_matches Fs) ds)
    ∙ ap (λ n. BFix i (rargs_of ds) (bodies_of n (map (map_def (drop_matches Fs)) ds))) (length_map (drop_matches Fs) ds)
    ∙ ap (BFix i (rargs_of ds)) (sym (bodies_dropped Fs (length ds) ds))

pub case_stays : (Fs : List BoxFamily) (f : FamilyId) (s s' : BoxTerm) (bs cs : List BoxBranch) → (propositional_of (family_of Fs f) ≡ false) ⊎ (bs ≡ []) →
    s' ≡ drop_matches Fs s → cs ≡ map (map_branch (drop_matches Fs)) bs → BCase f s' (arms_of cs) ≡ drop_matches Fs (BCase f s (arms_of bs))
case_stays Fs f s s' bs cs (inl p) e g =
    ap (λ s. BCase f s (arms_of cs)) e ∙ ap (λ cs. BCase f (drop_matches Fs s) (arms_of cs)) g ∙ ap (BCase f (drop_matches Fs s)) (sym (arms_dropped Fs bs))
    ∙ sym (ap (λ b. match_of b f (drop_matches Fs s) (drop_matches_terms Fs (arms_of bs))) p)
case_stays Fs f s s' bs cs (inr p) e g =
    ap (λ s. BCase f s (arms_of cs)) e ∙ ap (λ cs. BCase f (drop_matches Fs s) (arms_of cs)) (g ∙ ap (map (map_branch (drop_matches Fs))) p)
    ∙ sym (ap (λ bs. match_of (propositional_of (family_of Fs f)) f (drop_matches Fs s) (drop_matches_terms Fs (arms_of bs))) p ∙ empty (propositional_of (family_of Fs f)))
  where
    empty : (b : Bool) → match_of b f (drop_matches Fs s) Done ≡ BCase f (drop_matches Fs s) Done
    empty true = refl
    empty false = refl

pub case_only : (Fs : List BoxFamily) (f : FamilyId) (s b' : BoxTerm) (bs : List BoxBranch) (b : BoxBranch) → propositional_of (family_of Fs f) ≡ true → length bs ≡ 1 → b ≡ get_or bs 0 b →
    b' ≡ drop_matches Fs b.body → substitute (put_all (boxes b.binders) Rel) b' ≡ drop_matches Fs (BCase f s (arms_of bs))
case_only Fs f s b' [] b p l is e = absurd (omega arith)
case_only Fs f s b' (x ∷ []) b p l is e =
    ap (substitute (put_all (boxes b.binders) Rel)) e ∙ ap (λ (y : BoxBranch). substitute (put_all (boxes y.binders) Rel) (drop_matches Fs y.body)) is
    ∙ sym (ap (λ c. match_of c f (drop_matches Fs s) (drop_matches_terms Fs (arms_of (x ∷ [])))) p)
case_only Fs f s b' (x ∷ y ∷ bs) b p l is e = absurd (omega arith)

pub case_several : (Fs : List BoxFamily) (f : FamilyId) (s : BoxTerm) (bs : List BoxBranch) → propositional_of (family_of Fs f) ≡ true → 1 < length bs →
    Box ≡ drop_matches Fs (BCase f s (arms_of bs))
case_several Fs f s [] p l = absurd (omega arith)
case_several Fs f s (x ∷ []) p l = absurd (omega arith)
case_several Fs f s (x ∷ y ∷ bs) p l = sym (ap (λ c. match_of c f (drop_matches Fs s) (drop_matches_terms Fs (arms_of (x ∷ y ∷ bs)))) p)

-- no variable gets a greater number

abbrev Grows : (ℕ → ℕ) → Type 0
Grows r = (i : ℕ) → r i ≤ i + 1

grows_ups : (n : ℕ) (r : ℕ → ℕ) → Grows r → Grows (ups n r)
grows_ups zero r h i = h i
grows_ups (suc n) r h zero = omega arith
grows_ups (suc n) r h (suc i) = omega (arith, grows_ups n r h i)

mutual
  above_rename : (t : BoxTerm) (r : ℕ → ℕ) → Grows r → above (rename r t) ≤ above t + 1
  above_rename (Rel i) r h = omega (arith, h i)
  above_rename (Node l ts) r h = above_rename_places ts r h

  above_rename_places : {ss : List Slot} (ts : Places BoxLabel box_slots ss) (r : ℕ → ℕ) → Grows r → above_places (rename_children r ts) ≤ above_places ts + 1
  above_rename_places End r h = omega arith
  above_rename_places (Child {n} t ts) r h = omega (arith, above_rename t (ups n r) (grows_ups n r h), above_rename_places ts r h)
  above_rename_places (Group us ts) r h = omega (arith, above_rename_terms us r h, above_rename_places ts r h)

  above_rename_terms : (ts : BoxTerms) (r : ℕ → ℕ) → Grows r → above_trees (rename_terms r ts) ≤ above_trees ts + 1
  above_rename_terms Done r h = omega arith
  above_rename_terms (Next n t ts) r h = omega (arith, above_rename t (ups n r) (grows_ups n r h), above_rename_terms ts r h)

abbrev Lowers : (ℕ → BoxTerm) → Type 0
Lowers s = (i : ℕ) → above (s i) ≤ i + 1

grows_suc : Grows suc
grows_suc i = omega arith

lowers_overs : (n : ℕ) (s : ℕ → BoxTerm) → Lowers s → Lowers (overs n s)
lowers_overs zero s h i = h i
lowers_overs (suc n) s h zero = omega arith
lowers_overs (suc n) s h (suc i) = omega (arith, above_rename (overs n s i) suc grows_suc, lowers_overs n s h i)

mutual
  above_put : (t : BoxTerm) (s : ℕ → BoxTerm) → Lowers s → above (substitute s t) ≤ above t
  above_put (Rel i) s h = h i
  above_put (Node l ts) s h = above_put_places ts s h

  above_put_places : {ss : List Slot} (ts : Places BoxLabel box_slots ss) (s : ℕ → BoxTerm) → Lowers s → above_places (substitute_children s ts) ≤ above_places ts
  above_put_places End s h = omega arith
  above_put_places (Child {n} t ts) s h = omega (arith, above_put t (overs n s) (lowers_overs n s h), above_put_places ts s h)
  above_put_places (Group us ts) s h = omega (arith, above_put_terms us s h, above_put_places ts s h)

  above_put_terms : (ts : BoxTerms) (s : ℕ → BoxTerm) → Lowers s → above_trees (substitute_terms s ts) ≤ above_trees ts
  above_put_terms Done s h = omega arith
  above_put_terms (Next n t ts) s h = omega (arith, above_put t (overs n s) (lowers_overs n s h), above_put_terms ts s h)

lowers_first : (s : ℕ → BoxTerm) → Lowers s → Lowers (first Box s)
lowers_first s h zero = omega arith
lowers_first s h (suc i) = omega (arith, h i)

lowers_boxes : (k : ℕ) (s : ℕ → BoxTerm) → Lowers s → Lowers (put_all (boxes k) s)
lowers_boxes zero s h = h
lowers_boxes (suc k) s h = lowers_boxes k (first Box s) (lowers_first s h)

lowers_variables : Lowers Rel
lowers_variables i = omega arith

branch_above : (f : FamilyId) (s s' : BoxTerm) (bs bs' : BoxTerms) → above s' ≤ above s → above_trees bs' ≤ above_trees bs → above (only_branch f s' bs') ≤ above (BCase f s bs)
branch_above f s s' bs Done h g = omega (arith, h, g)
branch_above f s s' bs (Next k b Done) h g = omega (arith, g, above_put b (put_all (boxes k) Rel) (lowers_boxes k Rel lowers_variables))
branch_above f s s' bs (Next k b (Next l c ts)) h g = omega arith

match_above : (b : Bool) (f : FamilyId) (s s' : BoxTerm) (bs bs' : BoxTerms) → above s' ≤ above s → above_trees bs' ≤ above_trees bs → above (match_of b f s' bs') ≤ above (BCase f s bs)
match_above true f s s' bs bs' h g = branch_above f s s' bs bs' h g
match_above false f s s' bs bs' h g = omega (arith, h, g)

mutual
  dropped_above : (Fs : List BoxFamily) (t : BoxTerm) → above (drop_matches Fs t) ≤ above t
  dropped_above Fs (Rel i) = omega arith
  dropped_above Fs Box = omega arith
  dropped_above Fs (BLambda b) = omega (arith, dropped_above Fs b)
  dropped_above Fs (BLetIn b t) = omega (arith, dropped_above Fs b, dropped_above Fs t)
  dropped_above Fs (BApp f a) = omega (arith, dropped_above Fs f, dropped_above Fs a)
  dropped_above Fs (BConst k) = omega arith
  dropped_above Fs (BConstruct f c) = omega arith
  dropped_above Fs (BCase f s bs) =
      match_above (propositional_of (family_of Fs f)) f s (drop_matches Fs s) bs (drop_matches_terms Fs bs) (dropped_above Fs s) (dropped_above_terms Fs bs)
  dropped_above Fs (BFix i rargs bodies) = omega (arith, dropped_above_terms Fs bodies)

  dropped_above_terms : (Fs : List BoxFamily) (ts : BoxTerms) → above_trees (drop_matches_terms Fs ts) ≤ above_trees ts
  dropped_above_terms Fs Done = omega arith
  dropped_above_terms Fs (Next n t ts) = omega (arith, dropped_above Fs t, dropped_above_terms Fs ts)

-- so what a term becomes is within the limits
pub not_beyond : (Fs : List BoxFamily) (t u : BoxTerm) → IsWithin t → u ≡ drop_matches Fs t → IsBeyond u → ⊥
not_beyond Fs t u w e b = go (along IsBeyond e b)
  where
    go : IsBeyond (drop_matches Fs t) → ⊥
    go (inl d) = omega (arith, d, w.0, (prop_match_sizes Fs t).1)
    go (inr a) = omega (arith, a, w.1, dropped_above Fs t)

-- a body with boxes put in, as one walk
pub filled_beyond : (Fs : List BoxFamily) (t body : BoxTerm) (k : ℕ) (xs : List BoxTerm) → IsWithin t → xs ≡ boxes k → substitute (put_all (boxes k) Rel) body ≡ drop_matches Fs t →
    IsBeyond (subst_list 0 xs body) → ⊥
filled_beyond Fs t body k xs w e is b =
    not_beyond Fs t (subst_list 0 xs body) w (ap (λ xs. subst_list 0 xs body) e ∙ subst_list-substitute (boxes k) 0 body ∙ is) b
