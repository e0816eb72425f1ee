-- What holds of each node of a tree holds of each node of a tree that is renamed, or that has such trees put in for its variables.
use Rattle.std.specs.List.{All}
use Rattle.std.proofs.Common.{◌≡◌, ℕ, zero, suc, ◌+◌, List, [], ◌∷◌, refl, sym, ap, subst as along, arith}
use Rattle.trees.specs.Tree.{Slot, Tree, Rel, Node, Places, End, Child, Group, Trees, Done, Next}
use Rattle.trees.specs.Parallel.{ups, over, overs, rename, rename_children, rename_terms, substitute, substitute_children, substitute_terms, first, put, put_all}
use Rattle.trees.specs.Substitution.{lift, subst, subst_list}
use Rattle.trees.specs.Shape.{binders_of, groups, EachNode, EachChild, EachTerm}
use Rattle.trees.proofs.Cutoffs.{lift-shift, subst-substitute, subst_list-substitute}

module _ {L : Type 0} {slots : L → List Slot} where
  pub binders_renamed : (ts : Trees L slots) (r : ℕ → ℕ) → binders_of (rename_terms r ts) ≡ binders_of ts
  binders_renamed Done r = refl
  binders_renamed (Next n t ts) r = ap (◌∷◌ n) (binders_renamed ts r)

  groups_renamed : {ss : List Slot} (ts : Places L slots ss) (r : ℕ → ℕ) → groups (rename_children r ts) ≡ groups ts
  groups_renamed End r = refl
  groups_renamed (Child t ts) r = groups_renamed ts r
  groups_renamed (Group us ts) r = λ i. binders_renamed us r i ∷ groups_renamed ts r i

  pub binders_substituted : (ts : Trees L slots) (s : ℕ → Tree L slots) → binders_of (substitute_terms s ts) ≡ binders_of ts
  binders_substituted Done s = refl
  binders_substituted (Next n t ts) s = ap (◌∷◌ n) (binders_substituted ts s)

  groups_substituted : {ss : List Slot} (ts : Places L slots ss) (s : ℕ → Tree L slots) → groups (substitute_children s ts) ≡ groups ts
  groups_substituted End s = refl
  groups_substituted (Child t ts) s = groups_substituted ts s
  groups_substituted (Group us ts) s = λ i. binders_substituted us s i ∷ groups_substituted ts s i

module _ {L : Type 0} {slots : L → List Slot} (P : L → List (List ℕ) → Type 0) where
  mutual
    pub each_renamed : (t : Tree L slots) (r : ℕ → ℕ) → EachNode P t → EachNode P (rename r t)
    each_renamed (Rel i) r h = tt
    each_renamed (Node l ts) r h = (along (P l) (sym (groups_renamed ts r)) h.0, children_renamed ts r h.1)

    children_renamed : {ss : List Slot} (ts : Places L slots ss) (r : ℕ → ℕ) → EachChild P ts → EachChild P (rename_children r ts)
    children_renamed End r h = tt
    children_renamed (Child {n} t ts) r h = (each_renamed t (ups n r) h.0, children_renamed ts r h.1)
    children_renamed (Group us ts) r h = (terms_renamed us r h.0, children_renamed ts r h.1)

    terms_renamed : (ts : Trees L slots) (r : ℕ → ℕ) → EachTerm P ts → EachTerm P (rename_terms r ts)
    terms_renamed Done r h = tt
    terms_renamed (Next n t ts) r h = (each_renamed t (ups n r) h.0, terms_renamed ts r h.1)

  mutual
    pub before_renaming : (t : Tree L slots) (r : ℕ → ℕ) → EachNode P (rename r t) → EachNode P t
    before_renaming (Rel i) r h = tt
    before_renaming (Node l ts) r h = (along (P l) (groups_renamed ts r) h.0, children_before ts r h.1)

    children_before : {ss : List Slot} (ts : Places L slots ss) (r : ℕ → ℕ) → EachChild P (rename_children r ts) → EachChild P ts
    children_before End r h = tt
    children_before (Child {n} t ts) r h = (before_renaming t (ups n r) h.0, children_before ts r h.1)
    children_before (Group us ts) r h = (terms_before us r h.0, children_before ts r h.1)

    terms_before : (ts : Trees L slots) (r : ℕ → ℕ) → EachTerm P (rename_terms r ts) → EachTerm P ts
    terms_before Done r h = tt
    terms_before (Next n t ts) r h = (before_renaming t (ups n r) h.0, terms_before ts r h.1)

  over_each : (s : ℕ → Tree L slots) → ((i : ℕ) → EachNode P (s i)) → (i : ℕ) → EachNode P (over s i)
  over_each s h zero = tt
  over_each s h (suc i) = each_renamed (s i) suc (h i)

  pub overs_each : (n : ℕ) (s : ℕ → Tree L slots) → ((i : ℕ) → EachNode P (s i)) → (i : ℕ) → EachNode P (overs n s i)
  overs_each zero s h i = h i
  overs_each (suc n) s h i = over_each (overs n s) (overs_each n s h) i

  mutual
    pub each_substituted : (t : Tree L slots) (s : ℕ → Tree L slots) → ((i : ℕ) → EachNode P (s i)) → EachNode P t → EachNode P (substitute s t)
    each_substituted (Rel i) s f h = f i
    each_substituted (Node l ts) s f h = (along (P l) (sym (groups_substituted ts s)) h.0, children_substituted ts s f h.1)

    children_substituted : {ss : List Slot} (ts : Places L slots ss) (s : ℕ → Tree L slots) → ((i : ℕ) → EachNode P (s i)) → EachChild P ts → EachChild P (substitute_children s ts)
    children_substituted End s f h = tt
    children_substituted (Child {n} t ts) s f h = (each_substituted t (overs n s) (overs_each n s f) h.0, children_substituted ts s f h.1)
    children_substituted (Group us ts) s f h = (terms_substituted us s f h.0, children_substituted ts s f h.1)

    terms_substituted : (ts : Trees L slots) (s : ℕ → Tree L slots) → ((i : ℕ) → EachNode P (s i)) → EachTerm P ts → EachTerm P (substitute_terms s ts)
    terms_substituted Done s f h = tt
    terms_substituted (Next n t ts) s f h = (each_substituted t (overs n s) (overs_each n s f) h.0, terms_substituted ts s f h.1)

  pub first_each : (a : Tree L slots) (s : ℕ → Tree L slots) → EachNode P a → ((i : ℕ) → EachNode P (s i)) → (i : ℕ) → EachNode P (first a s i)
  first_each a s h f zero = h
  first_each a s h f (suc i) = f i

  pub put_all_each : (xs : List (Tree L slots)) (s : ℕ → Tree L slots) → All (EachNode P) xs → ((i : ℕ) → EachNode P (s i)) → (i : ℕ) → EachNode P (put_all xs s i)
  put_all_each [] s h f = f
  put_all_each (x ∷ xs) s h f =
      put_all_each xs (first x s) (λ i o l. h (suc i) o (omega (arith, l))) (first_each x s (h 0 x (omega arith)) f)

  pub each_lifted : (m k : ℕ) (t : Tree L slots) → EachNode P t → EachNode P (lift m k t)
  each_lifted m k t h = along (EachNode P) (sym (lift-shift m k t)) (each_renamed t (ups k (λ i. m + i)) h)

  pub before_lifting : (m k : ℕ) (t : Tree L slots) → EachNode P (lift m k t) → EachNode P t
  before_lifting m k t h = before_renaming t (ups k (λ i. m + i)) (along (EachNode P) (lift-shift m k t) h)

  pub each_put : (k : ℕ) (a t : Tree L slots) → EachNode P a → EachNode P t → EachNode P (subst k a t)
  each_put k a t h g =
      along (EachNode P) (sym (subst-substitute a k t)) (each_substituted t (overs k (put a)) (overs_each k (put a) (first_each a Rel h (λ i. tt))) g)

  pub each_put_list : (k : ℕ) (xs : List (Tree L slots)) (t : Tree L slots) → All (EachNode P) xs → EachNode P t → EachNode P (subst_list k xs t)
  each_put_list k xs t h g =
      along (EachNode P) (sym (subst_list-substitute xs k t))
      (each_substituted t (overs k (put_all xs Rel)) (overs_each k (put_all xs Rel) (put_all_each xs Rel h (λ i. tt))) g)

mutual
  pub each_weaker : {L : Type 0} {slots : L → List Slot} (P Q : L → List (List ℕ) → Type 0) → ((l : L) (gs : List (List ℕ)) → P l gs → Q l gs) → (t : Tree L slots) → EachNode P t → EachNode Q t
  each_weaker P Q f (Rel i) h = tt
  each_weaker P Q f (Node l ts) h = (f l (groups ts) h.0, children_weaker P Q f ts h.1)

  children_weaker : {L : Type 0} {slots : L → List Slot} (P Q : L → List (List ℕ) → Type 0) → ((l : L) (gs : List (List ℕ)) → P l gs → Q l gs) → {ss : List Slot} (ts : Places L slots ss) → EachChild P ts → EachChild Q ts
  children_weaker P Q f End h = tt
  children_weaker P Q f (Child t ts) h = (each_weaker P Q f t h.0, children_weaker P Q f ts h.1)
  children_weaker P Q f (Group us ts) h = (terms_weaker P Q f us h.0, children_weaker P Q f ts h.1)

  terms_weaker : {L : Type 0} {slots : L → List Slot} (P Q : L → List (List ℕ) → Type 0) → ((l : L) (gs : List (List ℕ)) → P l gs → Q l gs) → (ts : Trees L slots) → EachTerm P ts → EachTerm Q ts
  terms_weaker P Q f Done h = tt
  terms_weaker P Q f (Next n t ts) h = (each_weaker P Q f t h.0, terms_weaker P Q f ts h.1)
