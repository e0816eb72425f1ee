-- The test of sameness is true of two terms exactly where they are one tree.
use Rattle.std.proofs.Common.{◌≡◌, ◌≢◌, ℕ, suc, ◌==◌, ◌&&◌, Bool, true, false, IsTrue, ◌↔◌, List, [], ◌∷◌, length, refl, sym, ap, ◌∙◌, subst}
use Rattle.std.proofs.lemmas.Bool.{eqb-true, eq-eqb, and_from, and_right}
use Rattle.trees.proofs.Fusion.{child, group}
use Rattle.universe_levels.specs.declared.level.LevelExpr.{LevelExpr}
use Rattle.universe_levels.specs.declared.sort.Sort.{Sort}
use Rattle.universe_levels.specs.declared.sort.Sort.TheVariants.{Prop, Of}
use Rattle.pc_terms.specs.declared.leaf.FamilyId.{FamilyId}
use Rattle.pc_terms.specs.Syntax.{Slot, slots, Term, Terms, Children, End, Child, Group, Done, Next, Rel, Node, Label, SortOf, ProdOf, LambdaOf, LetInOf, AppOf, ConstOf, IndOf, ConstructOf, CaseOf, FixOf}
use Rattle.pc_terms.specs.Lists.{rargs_of}
use Rattle.pc_terms.specs.declared.term.Def.{Def}
use Rattle.calculus_rules.specs.Same.{same_numbers, same_parts, same_sorts, same_names, same_families, same_labels, same, same_children, same_terms}
use Rattle.pc_rules.proofs.WeakNext.{same_names_is, same_families_is, both_true}

pub same_numbers_is : (ms ns : List ℕ) → same_numbers ms ns ≡ true → ms ≡ ns
same_numbers_is [] [] e = refl
same_numbers_is (m ∷ ms) (n ∷ ns) e =
    let both = both_true (m == n) (same_numbers ms ns) e in λ i. eqb-true m n both.0 i ∷ same_numbers_is ms ns both.1 i
same_numbers_is [] (n ∷ ns) e = cc
same_numbers_is (m ∷ ms) [] e = cc

-- recursive arguments of lists that aren't of one length
pub rargs_other : (xs ys : List Def) → length xs ≢ length ys → same_numbers (rargs_of xs) (rargs_of ys) ≡ false
rargs_other [] [] h = absurd (h refl)
rargs_other [] (y ∷ ys) h = refl
rargs_other (x ∷ xs) [] h = refl
rargs_other (x ∷ xs) (y ∷ ys) h = and_right (x.rarg == y.rarg) _ (rargs_other xs ys (λ e. h (ap suc e)))

pub same_parts_is : (ps qs : List LevelExpr) → same_parts ps qs ≡ true → ps ≡ qs
same_parts_is [] [] e = refl
same_parts_is (p ∷ ps) (q ∷ qs) e =
    let both = both_true (p.level.0 == q.level.0) ((p.add == q.add) && same_parts ps qs) e in
    let rest = both_true (p.add == q.add) (same_parts ps qs) both.1 in
    λ i. record { level = record { 0 = eqb-true p.level.0 q.level.0 both.0 i }; add = eqb-true p.add q.add rest.0 i } ∷ same_parts_is ps qs rest.1 i
same_parts_is [] (q ∷ qs) e = cc
same_parts_is (p ∷ ps) [] e = cc

pub same_sorts_is : (s r : Sort) → same_sorts s r ≡ true → s ≡ r
same_sorts_is Prop Prop e = refl
same_sorts_is (Of u) (Of w) e = ap Of (same_parts_is u w e)
same_sorts_is Prop (Of w) e = cc
same_sorts_is (Of u) Prop e = cc

pub false_true : {A : Type 0} → false ≡ true → A
false_true e = absurd (cc)

pub same_labels_is : (l m : Label) → same_labels l m ≡ true → l ≡ m
same_labels_is (SortOf s) (SortOf r) e = ap SortOf (same_sorts_is s r e)
same_labels_is ProdOf ProdOf e = refl
same_labels_is LambdaOf LambdaOf e = refl
same_labels_is LetInOf LetInOf e = refl
same_labels_is AppOf AppOf e = refl
same_labels_is (ConstOf k) (ConstOf l) e = ap ConstOf (same_names_is k l e)
same_labels_is (IndOf f) (IndOf g) e = ap IndOf (same_families_is f g e)
same_labels_is (ConstructOf f c) (ConstructOf g d) e =
    let both = both_true (same_families f g) (c == d) e in λ i. ConstructOf (same_families_is f g both.0 i) (eqb-true c d both.1 i)
same_labels_is (CaseOf f n) (CaseOf g m) e =
    let both = both_true (same_families f g) (n == m) e in λ i. CaseOf (same_families_is f g both.0 i) (eqb-true n m both.1 i)
same_labels_is (FixOf i rargs) (FixOf j rargs') e =
    let both = both_true (i == j) (same_numbers rargs rargs') e in λ x. FixOf (eqb-true i j both.0 x) (same_numbers_is rargs rargs' both.1 x)
same_labels_is _ _ e = false_true e

mutual
  unfolding same

  pub same_is : (t u : Term) → same t u ≡ true → t ≡ u
  same_is (Rel i) (Rel j) e = ap (λ k. Rel k) (eqb-true i j e)
  same_is (Node l ts) (Node m us) e =
      let both = both_true (same_labels l m) (same_children ts us) e in
      subst (λ m. (us : Children (slots m)) → same_children ts us ≡ true → Node l ts ≡ Node m us) (same_labels_is l m both.0)
      (λ us q. ap (Node l) (same_children_is ts us q)) us both.1
  same_is (Rel i) (Node m us) e = false_true e
  same_is (Node l ts) (Rel j) e = false_true e

  same_children_is : {ss : List Slot} (ts us : Children ss) → same_children ts us ≡ true → ts ≡ us
  same_children_is End End e = refl
  same_children_is (Child t ts) (Child u us) e =
      let both = both_true (same t u) (same_children ts us) e in child (same_is t u both.0) (same_children_is ts us both.1)
  same_children_is (Group ps ts) (Group qs us) e =
      let both = both_true (same_terms ps qs) (same_children ts us) e in group (same_terms_is ps qs both.0) (same_children_is ts us both.1)

  same_terms_is : (ts us : Terms) → same_terms ts us ≡ true → ts ≡ us
  same_terms_is Done Done e = refl
  same_terms_is (Next n t ts) (Next m u us) e =
      let both = both_true (n == m) (same t u && same_terms ts us) e in
      let rest = both_true (same t u) (same_terms ts us) both.1 in
      λ i. Next (eqb-true n m both.0 i) (same_is t u rest.0 i) (same_terms_is ts us rest.1 i)
  same_terms_is Done (Next m u us) e = false_true e
  same_terms_is (Next n t ts) Done e = false_true e

-- and it is true of a term and itself

pub one_number : (n : ℕ) → (n == n) ≡ true
one_number n = eq-eqb n n refl

pub one_list : (ns : List ℕ) → same_numbers ns ns ≡ true
one_list [] = refl
one_list (n ∷ ns) = and_from (n == n) (same_numbers ns ns) (one_number n) (one_list ns)

one_universe : (ps : List LevelExpr) → same_parts ps ps ≡ true
one_universe [] = refl
one_universe (p ∷ ps) =
    and_from (p.level.0 == p.level.0) ((p.add == p.add) && same_parts ps ps) (one_number p.level.0)
    (and_from (p.add == p.add) (same_parts ps ps) (one_number p.add) (one_universe ps))

one_sort : (s : Sort) → same_sorts s s ≡ true
one_sort Prop = refl
one_sort (Of u) = one_universe u

pub one_family : (f : FamilyId) → same_families f f ≡ true
one_family f = and_from (same_names f.block f.block) (f.family == f.family) (one_number f.block.0) (one_number f.family)

one_label : (l : Label) → same_labels l l ≡ true
one_label (SortOf s) = one_sort s
one_label ProdOf = refl
one_label LambdaOf = refl
one_label LetInOf = refl
one_label AppOf = refl
one_label (ConstOf k) = one_number k.0
one_label (IndOf f) = one_family f
one_label (ConstructOf f c) = and_from (same_families f f) (c == c) (one_family f) (one_number c)
one_label (CaseOf f n) = and_from (same_families f f) (n == n) (one_family f) (one_number n)
one_label (FixOf i rargs) = and_from (i == i) (same_numbers rargs rargs) (one_number i) (one_list rargs)

mutual
  unfolding same

  pub same_itself : (t : Term) → same t t ≡ true
  same_itself (Rel i) = one_number i
  same_itself (Node l ts) = and_from (same_labels l l) (same_children ts ts) (one_label l) (children_themselves ts)

  children_themselves : {ss : List Slot} (ts : Children ss) → same_children ts ts ≡ true
  children_themselves End = refl
  children_themselves (Child t ts) = and_from (same t t) (same_children ts ts) (same_itself t) (children_themselves ts)
  children_themselves (Group us ts) = and_from (same_terms us us) (same_children ts ts) (terms_themselves us) (children_themselves ts)

  terms_themselves : (ts : Terms) → same_terms ts ts ≡ true
  terms_themselves Done = refl
  terms_themselves (Next n t ts) =
      and_from (n == n) (same t t && same_terms ts ts) (one_number n) (and_from (same t t) (same_terms ts ts) (same_itself t) (terms_themselves ts))

-- the test of sameness by any test that decides it

pub not_true : (b : Bool) → (b ≡ true → ⊥) → b ≡ false
not_true true h = absurd (h refl)
not_true false h = refl

pub same_yes : (a b : Term) (r : Bool) → (IsTrue r ↔ (a ≡ b)) → r ≡ true → same a b ≡ true
same_yes a b r h e = let p : a ≡ b = h.0 e in rw p (same_itself b)

pub same_no : (a b : Term) (r : Bool) → (IsTrue r ↔ (a ≡ b)) → r ≡ false → same a b ≡ false
same_no a b r h e = not_true (same a b) (λ q. false_true (sym e ∙ h.1 (same_is a b q)))
