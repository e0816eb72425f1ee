-- Closed trees, substitutions that agree, and lists put in, for all languages.
use Rattle.std.proofs.Common.{map, ◌≡◌, ℕ, zero, suc, ◌+◌, ◌<◌, List, [], ◌∷◌, ◌++◌, length, Option, Some, None, refl, sym, ap, ◌∙◌, arith}
use mathlib.Core.Path.{fun_ext}
use Rattle.trees.specs.Tree.{Slot, Tree, Rel, Node, Places, End, Child, Group, Trees, Done, Next, terms_of, number, term_at}
use Rattle.trees.specs.Parallel.{up, ups, rename, over, overs, substitute, substitute_children, substitute_terms, shift, first, put, put_all}
use Rattle.trees.specs.Closed.{Closed, ClosedChildren, ClosedTerms}
use Rattle.trees.proofs.Fusion.{child, group, next, substitute-rename, rename-substitute, substitute-substitute, substitute_rel, rename_same}
use Rattle.trees.proofs.Cutoffs.{overs_past}

-- two substitutions that agree below k
abbrev pub Agree : {L : Type 0} {slots : L → List Slot} → ℕ → (ℕ → Tree L slots) → (ℕ → Tree L slots) → Type 0
Agree k s s' = (i : ℕ) → i < k → s i ≡ s' i

pub overs_agree : {L : Type 0} {slots : L → List Slot} (b k : ℕ) (s s' : ℕ → Tree L slots) → Agree k s s' → Agree (b + k) (overs b s) (overs b s')
overs_agree zero k s s' h i l = h i (omega arith)
overs_agree (suc b) k s s' h zero l = refl
overs_agree (suc b) k s s' h (suc i) l = ap (rename suc) (overs_agree b k s s' h i (omega arith))

mutual
  pub substitute_closed : {L : Type 0} {slots : L → List Slot} (t : Tree L slots) (k : ℕ) (s s' : ℕ → Tree L slots) → Agree k s s' → Closed k t → substitute s t ≡ substitute s' t
  substitute_closed (Rel i) k s s' h c = h i c
  substitute_closed (Node l ts) k s s' h c = ap (Node l) (substitute_children_closed ts k s s' h c)

  pub substitute_children_closed : {L : Type 0} {slots : L → List Slot} {ss : List Slot} (ts : Places L slots ss) (k : ℕ) (s s' : ℕ → Tree L slots) → Agree k s s' → ClosedChildren k ts →
      substitute_children s ts ≡ substitute_children s' ts
  substitute_children_closed End k s s' h c = refl
  substitute_children_closed (Child {n} t ts) k s s' h c =
      child (substitute_closed t (n + k) (overs n s) (overs n s') (overs_agree n k s s' h) c.0) (substitute_children_closed ts k s s' h c.1)
  substitute_children_closed (Group us ts) k s s' h c = group (substitute_terms_closed us k s s' h c.0) (substitute_children_closed ts k s s' h c.1)

  pub substitute_terms_closed : {L : Type 0} {slots : L → List Slot} (ts : Trees L slots) (k : ℕ) (s s' : ℕ → Tree L slots) → Agree k s s' → ClosedTerms k ts → substitute_terms s ts ≡ substitute_terms s' ts
  substitute_terms_closed Done k s s' h c = refl
  substitute_terms_closed (Next n t ts) k s s' h c =
      next (substitute_closed t (n + k) (overs n s) (overs n s') (overs_agree n k s s' h) c.0) (substitute_terms_closed ts k s s' h c.1)

pub each_append : {A B : Type 0} (f : A → B) (xs ys : List A) → map f (xs ++ ys) ≡ map f xs ++ map f ys
each_append f [] ys = refl
each_append f (x ∷ xs) ys = ap (◌∷◌ (f x)) (each_append f xs ys)

pub each_length : {A B : Type 0} (f : A → B) (xs : List A) → length (map f xs) ≡ length xs
each_length f [] = refl
each_length f (x ∷ xs) = ap suc (each_length f xs)

-- terms put in for all variables of a closed term
pub put_all_agree : {L : Type 0} {slots : L → List Slot} (xs : List (Tree L slots)) (s s' : ℕ → Tree L slots) (k : ℕ) → Agree k s s' → Agree (k + length xs) (put_all xs s) (put_all xs s')
put_all_agree [] s s' k h i l = h i (omega arith)
put_all_agree (x ∷ xs) s s' k h i l = put_all_agree xs (first x s) (first x s') (suc k) (more h) i (omega arith)
  where
    more : Agree k s s' → Agree (suc k) (first x s) (first x s')
    more h zero l = refl
    more h (suc i) l = h i (omega arith)

-- n more variables, renamed
pub ups_past : (n : ℕ) (r : ℕ → ℕ) (i : ℕ) → ups n r (n + i) ≡ n + r i
ups_past zero r i = ap r (zero_left i) ∙ sym (zero_left (r i))
  where
    zero_left : (i : ℕ) → 0 + i ≡ i
    zero_left i = omega arith
ups_past (suc n) r i = ap (up (ups n r)) (suc_left n i) ∙ ap suc (ups_past n r i) ∙ sym (suc_left n (r i))
  where
    suc_left : (n i : ℕ) → suc n + i ≡ suc (n + i)
    suc_left n i = omega arith

-- a variable below n stays
pub ups_below : (n : ℕ) (r : ℕ → ℕ) (i : ℕ) → i < n → ups n r i ≡ i
ups_below zero r i l = absurd (omega arith)
ups_below (suc n) r zero l = refl
ups_below (suc n) r (suc i) l = ap suc (ups_below n r i (omega arith))

pub substitute_same : {L : Type 0} {slots : L → List Slot} (t : Tree L slots) → substitute Rel t ≡ t
substitute_same t = substitute_rel t (λ j. j) ∙ rename_same t

pub agree_none : {L : Type 0} {slots : L → List Slot} (s s' : ℕ → Tree L slots) → Agree 0 s s'
agree_none s s' i l = absurd (omega arith)

pub substitute_whole : {L : Type 0} {slots : L → List Slot} (t : Tree L slots) (s : ℕ → Tree L slots) → Closed 0 t → substitute s t ≡ t
substitute_whole t s c = substitute_closed t 0 s Rel (agree_none s Rel) c ∙ substitute_same t

pub overs_over : {L : Type 0} {slots : L → List Slot} (n : ℕ) (s : ℕ → Tree L slots) → overs n (over s) ≡ over (overs n s)
overs_over zero s = refl
overs_over (suc n) s = ap over (overs_over n s)

pub substitute-put_all : {L : Type 0} {slots : L → List Slot} (xs : List (Tree L slots)) (s q p p' : ℕ → Tree L slots) → ((j : ℕ) → substitute p' (q j) ≡ substitute s (p j)) →
    (i : ℕ) → substitute (put_all (map (substitute s) xs) p') (overs (length xs) q i) ≡ substitute s (put_all xs p i)
substitute-put_all [] s q p p' h i = h i
substitute-put_all (a ∷ xs) s q p p' h i =
    ap (λ g. substitute (put_all (map (substitute s) xs) (first (substitute s a) p')) (g i)) (sym (overs_over (length xs) q))
    ∙ substitute-put_all xs s (over q) (first a p) (first (substitute s a) p') later i
  where
    later : (j : ℕ) → substitute (first (substitute s a) p') (over q j) ≡ substitute s (first a p j)
    later zero = refl
    later (suc j) = substitute-rename (q j) suc (first (substitute s a) p') ∙ h j

pub substitute-put_all_in : {L : Type 0} {slots : L → List Slot} (xs : List (Tree L slots)) (s : ℕ → Tree L slots) (t : Tree L slots) →
    substitute (put_all (map (substitute s) xs) Rel) (substitute (overs (length xs) s) t) ≡ substitute s (substitute (put_all xs Rel) t)
substitute-put_all_in xs s t =
    substitute-substitute t (overs (length xs) s) (put_all (map (substitute s) xs) Rel)
    ∙ ap (λ s. substitute s t) (fun_ext (substitute-put_all xs s s Rel Rel (λ j. substitute_same (s j))))
    ∙ sym (substitute-substitute t (put_all xs Rel) s)

pub substitute-put : {L : Type 0} {slots : L → List Slot} (a : Tree L slots) (s : ℕ → Tree L slots) (t : Tree L slots) → substitute (put (substitute s a)) (substitute (over s) t) ≡ substitute s (substitute (put a) t)
substitute-put a s t = substitute-put_all_in (a ∷ []) s t

abbrev pub substituted_term : {L : Type 0} {slots : L → List Slot} → (ℕ → Tree L slots) → Option (ℕ × Tree L slots) → Option (ℕ × Tree L slots)
substituted_term s None = None
substituted_term s (Some p) = Some (p.0, substitute (overs p.0 s) p.1)

pub term_at-substitute : {L : Type 0} {slots : L → List Slot} (ts : Trees L slots) (s : ℕ → Tree L slots) (i : ℕ) → term_at (substitute_terms s ts) i ≡ substituted_term s (term_at ts i)
term_at-substitute Done s i = refl
term_at-substitute (Next n t ts) s zero = refl
term_at-substitute (Next n t ts) s (suc i) = term_at-substitute ts s i

pub lift-substitute : {L : Type 0} {slots : L → List Slot} (n : ℕ) (s : ℕ → Tree L slots) (t : Tree L slots) → shift n 0 (substitute s t) ≡ substitute (overs n s) (shift n 0 t)
lift-substitute n s t =
    rename-substitute t s (λ i. n + i) ∙ ap (λ q. substitute q t) (fun_ext (λ i. sym (overs_past n s i)))
    ∙ sym (substitute-rename t (λ i. n + i) (overs n s))

pub substitute-put_each : {L : Type 0} {slots : L → List Slot} (xs : List (Tree L slots)) (q s : ℕ → Tree L slots) (i : ℕ) → substitute q (put_all xs s i) ≡ put_all (map (substitute q) xs) (λ j. substitute q (s j)) i
substitute-put_each [] q s i = refl
substitute-put_each (x ∷ xs) q s i =
    substitute-put_each xs q (first x s) i ∙ ap (λ p. put_all (map (substitute q) xs) p i) (fun_ext split)
  where
    split : (j : ℕ) → substitute q (first x s j) ≡ first (substitute q x) (λ j. substitute q (s j)) j
    split zero = refl
    split (suc j) = refl

pub put_closed : {L : Type 0} {slots : L → List Slot} (xs : List (Tree L slots)) (s : ℕ → Tree L slots) → Agree (length xs) (λ i. substitute s (put_all xs Rel i)) (put_all (map (substitute s) xs) Rel)
put_closed xs s i l =
    substitute-put_each xs s Rel i
    ∙ put_all_agree (map (substitute s) xs) s Rel 0 (agree_none s Rel) i (less l (each_length (substitute s) xs))
  where
    less : {i n m : ℕ} → i < n → m ≡ n → i < 0 + m
    less l e = omega arith

pub each_terms : {L : Type 0} {slots : L → List Slot} (xs : List (Tree L slots)) (s : ℕ → Tree L slots) → substitute_terms s (terms_of xs) ≡ terms_of (map (substitute s) xs)
each_terms [] s = refl
each_terms (x ∷ xs) s = ap (Next 0 (substitute s x)) (each_terms xs s)

pub number-substitute : {L : Type 0} {slots : L → List Slot} (ts : Trees L slots) (s : ℕ → Tree L slots) → number (substitute_terms s ts) ≡ number ts
number-substitute Done s = refl
number-substitute (Next n t ts) s = ap suc (number-substitute ts s)

pub agree_first : {L : Type 0} {slots : L → List Slot} (k : ℕ) (q s s' : ℕ → Tree L slots) (t : Tree L slots) → Agree k (λ j. substitute q (s j)) s' →
    Agree (suc k) (λ j. substitute q (first t s j)) (first (substitute q t) s')
agree_first k q s s' t g zero l = refl
agree_first k q s s' t g (suc i) l = g i (omega arith)

pub substitute_closed' : {L : Type 0} {slots : L → List Slot} (A : Tree L slots) (k : ℕ) (q s q' : ℕ → Tree L slots) → Agree k (λ j. substitute s (q j)) q' → Closed k A →
    substitute s (substitute q A) ≡ substitute q' A
substitute_closed' A k q s q' a c = substitute-substitute A q s ∙ substitute_closed A k (λ j. substitute s (q j)) q' a c
