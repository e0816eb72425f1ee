-- Substitutions that put variables for variables, each for one at most, or box; and what a term names after them.
use Rattle.std.proofs.Common.{◌≡◌, ℕ, zero, suc, ◌+◌, ◌<◌, Bool, true, false, ◌||◌, List, refl, sym, ap, ◌∙◌, subst, arith, ◌⊎◌, inl, inr, ⊎_elim}
use Rattle.std.specs.Prelude.{if◌then◌else◌}
use Rattle.std.proofs.lemmas.Bool.{eqb-true, eq-eqb, or_cases, or_left, or_right, false≢true}
use Rattle.trees.specs.Tree.{Slot, Rel, Node, Places, End, Child, Group, Done, Next}
use Rattle.trees.specs.Parallel.{rename, over, overs, substitute, substitute_children, substitute_terms, first}
use Rattle.box_terms.specs.BoxSyntax.{BoxLabel, box_slots, BoxTerm, BoxTerms, Box, BLambda, BLetIn, BApp, BConst, BConstruct, BCase, BFix}
use Rattle.lambda_box.specs.ClosureEvaluation.{names, names_places, names_terms}
use Rattle.shrink_passes.specs.DropParams.{is_spine, cut, cut_terms}

-- box or a variable
abbrev pub IsThin : BoxTerm → Type 0
IsThin t = (t ≡ Box) ⊎ ((j : ℕ) × (t ≡ Rel j))

pub record Thins (s : ℕ → BoxTerm) : Type 0 where
  pub thin : (i : ℕ) → IsThin (s i)
  pub apart : (i i' j : ℕ) → s i ≡ Rel j → s i' ≡ Rel j → i ≡ i'

abbrev variable_of : BoxTerm → ℕ
variable_of (Rel i) = i
variable_of t = 0

pub same_variable : {i j : ℕ} → ◌≡◌ {A = BoxTerm} (Rel i) (Rel j) → i ≡ j
same_variable e = ap variable_of e

abbrev is_variable : BoxTerm → Bool
is_variable (Rel i) = true
is_variable t = false

pub box_no_variable : {j : ℕ} → Box ≡ Rel j → ⊥
box_no_variable {j} e = false≢true (ap is_variable e)

pub thins_rel : Thins Rel
thins_rel = record { thin = λ i. inr (i, refl); apart = λ i i' j e g. same_variable e ∙ sym (same_variable g) }

later_thin : (t : BoxTerm) → IsThin t → IsThin (rename suc t)
later_thin t h = ⊎_elim (λ e. inl (ap (rename suc) e)) (λ v. inr (suc v.0, ap (rename suc) v.1)) h

-- a variable that is a successor was one before
pub before_thin : (t : BoxTerm) (j : ℕ) → IsThin t → rename suc t ≡ Rel j → (i : ℕ) × (t ≡ Rel i) × (j ≡ suc i)
before_thin t j h e = ⊎_elim (λ b. absurd (box_no_variable (sym (ap (rename suc) b) ∙ e))) (λ v. (v.0, v.1, sym (same_variable (sym (ap (rename suc) v.1) ∙ e)))) h

pub thins_over : {s : ℕ → BoxTerm} → Thins s → Thins (over s)
thins_over {s} h = record { thin = thin; apart = apart }
  where
    thin : (i : ℕ) → IsThin (over s i)
    thin zero = inr (0, refl)
    thin (suc i) = later_thin (s i) (h.thin i)

    apart : (i i' j : ℕ) → over s i ≡ Rel j → over s i' ≡ Rel j → i ≡ i'
    apart zero zero j e g = refl
    apart zero (suc i') j e g = let b = before_thin (s i') j (h.thin i') g in absurd (omega (arith, same_variable e, b.2))
    apart (suc i) zero j e g = let b = before_thin (s i) j (h.thin i) e in absurd (omega (arith, same_variable g, b.2))
    apart (suc i) (suc i') j e g =
        let a = before_thin (s i) j (h.thin i) e in
        let b = before_thin (s i') j (h.thin i') g in
        let q : b.0 ≡ a.0 = omega (arith, a.2, b.2) in
        ap suc (h.apart i i' a.0 a.1 (b.1 ∙ ap Rel q))

pub thins_overs : (n : ℕ) {s : ℕ → BoxTerm} → Thins s → Thins (overs n s)
thins_overs zero h = h
thins_overs (suc n) h = thins_over (thins_overs n h)

pub thins_first : {s : ℕ → BoxTerm} → Thins s → Thins (first Box s)
thins_first {s} h = record { thin = thin; apart = apart }
  where
    thin : (i : ℕ) → IsThin (first Box s i)
    thin zero = inl refl
    thin (suc i) = h.thin i

    apart : (i i' j : ℕ) → first Box s i ≡ Rel j → first Box s i' ≡ Rel j → i ≡ i'
    apart zero i' j e g = absurd (box_no_variable e)
    apart (suc i) zero j e g = absurd (box_no_variable g)
    apart (suc i) (suc i') j e g = ap suc (h.apart i i' j e g)

pub overs_past : (n : ℕ) (s : ℕ → BoxTerm) (i j : ℕ) → s i ≡ Rel j → overs n s (n + i) ≡ Rel (n + j)
overs_past zero s i j e = let p : 0 + i ≡ i = omega arith in let q : j ≡ 0 + j = omega arith in ap s p ∙ e ∙ ap Rel q
overs_past (suc n) s i j e =
    let p : suc n + i ≡ suc (n + i) = omega arith in
    let q : suc (n + j) ≡ suc n + j = omega arith in
    ap (overs (suc n) s) p ∙ ap (rename suc) (overs_past n s i j e) ∙ ap Rel q

pub overs_below : (n : ℕ) (s : ℕ → BoxTerm) (i : ℕ) → i < n → overs n s i ≡ Rel i
overs_below zero s i l = absurd (omega arith)
overs_below (suc n) s zero l = refl
overs_below (suc n) s (suc i) l = ap (rename suc) (overs_below n s i (omega arith))

-- a variable that the term names after the substitution stood for one that it named before

mutual
  pub named_before : (s : ℕ → BoxTerm) → Thins s → (t : BoxTerm) (i j : ℕ) → s i ≡ Rel j → names (substitute s t) j ≡ true → names t i ≡ true
  named_before s h (Rel m) i j e n =
      ⊎_elim (λ b. absurd (false≢true (sym (ap (λ t. names t j) b) ∙ n)))
      (λ v. let q : v.0 ≡ j = eqb-true v.0 j (sym (ap (λ t. names t j) v.1) ∙ n) in eq-eqb m i (h.apart m i j (v.1 ∙ ap Rel q) e)) (h.thin m)
  named_before s h (Node l ts) i j e n = named_before_places s h ts i j e n

  named_before_places : (s : ℕ → BoxTerm) → Thins s → {ss : List Slot} (ts : Places BoxLabel box_slots ss) (i j : ℕ) → s i ≡ Rel j → names_places (substitute_children s ts) j ≡ true → names_places ts i ≡ true
  named_before_places s h End i j e n = absurd (cc)
  named_before_places s h (Child {n = m} t ts) i j e n =
      ⊎_elim (λ a. or_left (names t (m + i)) (names_places ts i) (named_before (overs m s) (thins_overs m h) t (m + i) (m + j) (overs_past m s i j e) a))
      (λ b. or_right (names t (m + i)) (names_places ts i) (named_before_places s h ts i j e b)) (or_cases (names (substitute (overs m s) t) (m + j)) (names_places (substitute_children s ts) j) n)
  named_before_places s h (Group us ts) i j e n =
      ⊎_elim (λ a. or_left (names_terms us i) (names_places ts i) (named_before_terms s h us i j e a))
      (λ b. or_right (names_terms us i) (names_places ts i) (named_before_places s h ts i j e b)) (or_cases (names_terms (substitute_terms s us) j) (names_places (substitute_children s ts) j) n)

  pub named_before_terms : (s : ℕ → BoxTerm) → Thins s → (ts : BoxTerms) (i j : ℕ) → s i ≡ Rel j → names_terms (substitute_terms s ts) j ≡ true → names_terms ts i ≡ true
  named_before_terms s h Done i j e n = absurd (cc)
  named_before_terms s h (Next m t ts) i j e n =
      ⊎_elim (λ a. or_left (names t (m + i)) (names_terms ts i) (named_before (overs m s) (thins_overs m h) t (m + i) (m + j) (overs_past m s i j e) a))
      (λ b. or_right (names t (m + i)) (names_terms ts i) (named_before_terms s h ts i j e b)) (or_cases (names (substitute (overs m s) t) (m + j)) (names_terms (substitute_terms s ts) j) n)

-- a cut term names no more

pub either_map : (x y x' y' : Bool) → (x ≡ true → x' ≡ true) → (y ≡ true → y' ≡ true) → (x || y) ≡ true → (x' || y') ≡ true
either_map x y x' y' f g e = ⊎_elim (λ a. or_left x' y' (f a)) (λ b. or_right x' y' (g b)) (or_cases x y e)

kept : false ≡ true → false ≡ true
kept e = e

module _ (k p : ℕ) where
  mutual
    pub named_cut : (t : BoxTerm) (i : ℕ) → names (cut k p t) i ≡ true → names t i ≡ true
    named_cut (Rel m) i n = n
    named_cut Box i n = n
    named_cut (BLambda b) i n = either_map (names (cut k p b) (1 + i)) false (names b (1 + i)) false (named_cut b (1 + i)) kept n
    named_cut (BLetIn a t) i n =
        either_map (names (cut k p a) (0 + i)) (names (cut k p t) (1 + i) || false) (names a (0 + i)) (names t (1 + i) || false) (named_cut a (0 + i))
        (either_map (names (cut k p t) (1 + i)) false (names t (1 + i)) false (named_cut t (1 + i)) kept) n
    named_cut (BApp f a) i n = either (is_spine k f p) (named_cut f (0 + i)) (named_cut a (0 + i)) n
      where
        either : (z : Bool) → (names (cut k p f) (0 + i) ≡ true → names f (0 + i) ≡ true) → (names (cut k p a) (0 + i) ≡ true → names a (0 + i) ≡ true) → names (if z then cut k p f else BApp (cut k p f) (cut k p a)) i ≡ true → names (BApp f a) i ≡ true
        either true x y n = let q : i ≡ 0 + i = omega arith in or_left (names f (0 + i)) (names a (0 + i) || false) (x (subst (λ m. names (cut k p f) m ≡ true) q n))
        either false x y n = either_map (names (cut k p f) (0 + i)) (names (cut k p a) (0 + i) || false) (names f (0 + i)) (names a (0 + i) || false) x (either_map (names (cut k p a) (0 + i)) false (names a (0 + i)) false y kept) n
    named_cut (BConst c) i n = n
    named_cut (BConstruct f c) i n = n
    named_cut (BCase f s bs) i n =
        either_map (names (cut k p s) (0 + i)) (names_terms (cut_terms k p bs) i || false) (names s (0 + i)) (names_terms bs i || false) (named_cut s (0 + i))
        (either_map (names_terms (cut_terms k p bs) i) false (names_terms bs i) false (named_cut_terms bs i) kept) n
    named_cut (BFix m rargs bodies) i n = either_map (names_terms (cut_terms k p bodies) i) false (names_terms bodies i) false (named_cut_terms bodies i) kept n

    pub named_cut_terms : (ts : BoxTerms) (i : ℕ) → names_terms (cut_terms k p ts) i ≡ true → names_terms ts i ≡ true
    named_cut_terms Done i n = n
    named_cut_terms (Next m t ts) i n = either_map (names (cut k p t) (m + i)) (names_terms (cut_terms k p ts) i) (names t (m + i)) (names_terms ts i) (named_cut t (m + i)) (named_cut_terms ts i) n
