-- Several steps: they are taken in parts, kept by renaming, and put the values of a context in.
use Rattle.std.proofs.Common.{ℕ, zero, suc, ◌≡◌, List, [], ◌∷◌, Option, Some, None, refl, sym, subst}
use Rattle.pc_terms.specs.Syntax.{Slot, Term, Terms, Children, End, Child, Group, Done, Next, Rel, Node, rename, substitute, substitute_children, substitute_terms, over, overs}
use Rattle.calculus_rules.specs.Environment.{Env}
use Rattle.calculus_rules.specs.Context.{Values, under}
use Rattle.calculus_rules.specs.Step.{variable, Step, StepIn, StepTerms, root, inside, let_body, in_child, in_group, past_child, past_group, in_first, in_rest}
use Rattle.trees.proofs.Put.{substitute_same}
use Rattle.typing_laws.proofs.Traversal.{good_under}
use Rattle.typing_laws.proofs.RenamingAndPutting.{RenamesValues, renaming_values, renames_over, later, later_is, later_values}
use Rattle.equality_laws.proofs.Roots.{Settled, StepOf, contraction, value, step_of, root_anywhere, root_substituted}
use Rattle.equality_laws.proofs.ToEquality.{expanding}
use Rattle.type_laws.specs.Contexts.{Reduces, none, more}

pub reduces_then : {E : Env} {V : Values} {t u w : Term} → Reduces E V t u → Reduces E V u w → Reduces E V t w
reduces_then none q = q
reduces_then (more s p) q = more s (reduces_then p q)

-- what takes a step with its part takes several
pub reduces_by : {E : Env} {V W : Values} (f : Term → Term) → ((t u : Term) → Step E V t u → Step E W (f t) (f u)) → {t u : Term} → Reduces E V t u → Reduces E W (f t) (f u)
reduces_by f g none = none
reduces_by f g (more {t = t} {u = u} s p) = more (g t u s) (reduces_by f g p)

reduces_at : {E : Env} {V : Values} {t t' u u' : Term} → t ≡ t' → u ≡ u' → Reduces E V t u → Reduces E V t' u'
reduces_at {E} {V} {t} {t'} {u} p q h = subst (λ u. Reduces E V t' u) q (subst (λ t. Reduces E V t u) p h)

-- renaming

root_renamed : {E : Env} → Settled E → {V : Values} {t u : Term} → StepOf E V t u → (s : ℕ → Term) (W : Values) → RenamesValues s V W → Step E W (substitute s t) (substitute s u)
root_renamed d (contraction r) s W g = root (root_anywhere W (root_substituted d r s))
root_renamed {E} d (value {i} {v} e) s W g =
    let (j, p, h) = g i in
    subst (λ t. Step E W t (substitute s v)) (sym p) (root (variable (h v e)))

mutual
  step_renamed : {E : Env} → Settled E → {V : Values} {t u : Term} → Step E V t u → (s : ℕ → Term) (W : Values) → RenamesValues s V W → Step E W (substitute s t) (substitute s u)
  step_renamed d (root r) s W g = root_renamed d (step_of r) s W g
  step_renamed d (inside p) s W g = inside (step_in_renamed d p s W g)
  step_renamed d (let_body {V} {b} p) s W g = let_body (step_renamed d p (over s) (Some (substitute s b) ∷ W) (renames_over s V W g (Some b)))

  step_in_renamed : {E : Env} → Settled E → {V : Values} {ss : List Slot} {ts us : Children ss} → StepIn E V ss ts us → (s : ℕ → Term) (W : Values) → RenamesValues s V W →
      StepIn E W ss (substitute_children s ts) (substitute_children s us)
  step_in_renamed {E} d (in_child {V} {n} p) s W g = in_child (step_renamed d p (overs n s) (under n W) (good_under (renaming_values E) g n))
  step_in_renamed d (in_group p) s W g = in_group (step_terms_renamed d p s W g)
  step_in_renamed d (past_child p) s W g = past_child (step_in_renamed d p s W g)
  step_in_renamed d (past_group p) s W g = past_group (step_in_renamed d p s W g)

  step_terms_renamed : {E : Env} → Settled E → {V : Values} {ts us : Terms} → StepTerms E V ts us → (s : ℕ → Term) (W : Values) → RenamesValues s V W →
      StepTerms E W (substitute_terms s ts) (substitute_terms s us)
  step_terms_renamed {E} d (in_first {V} {n} p) s W g = in_first (step_renamed d p (overs n s) (under n W) (good_under (renaming_values E) g n))
  step_terms_renamed d (in_rest p) s W g = in_rest (step_terms_renamed d p s W g)

-- under one entry more
reduces_lifted : {E : Env} → Settled E → {V : Values} {t u : Term} → Reduces E V t u → (o : Option Term) → Reduces E (o ∷ V) (rename suc t) (rename suc u)
reduces_lifted d {V} {t} {u} p o =
    reduces_at (later_is t) (later_is u) (reduces_by (substitute later) (λ t u s. step_renamed d s later (o ∷ V) (later_values o V)) p)

-- terms put in for the variables that reduce to others

points_under : {E : Env} → Settled E → (n : ℕ) (V : Values) (s s' : ℕ → Term) → ((i : ℕ) → Reduces E V (s i) (s' i)) → (i : ℕ) → Reduces E (under n V) (overs n s i) (overs n s' i)
points_under d zero V s s' h i = h i
points_under d (suc n) V s s' h zero = none
points_under d (suc n) V s s' h (suc i) = reduces_lifted d (points_under d n V s s' h i) None

mutual
  reduces_put : {E : Env} → Settled E → (V : Values) (t : Term) (s s' : ℕ → Term) → ((i : ℕ) → Reduces E V (s i) (s' i)) → Reduces E V (substitute s t) (substitute s' t)
  reduces_put d V (Rel i) s s' h = h i
  reduces_put d V (Node l ts) s s' h = reduces_put_in d V ts s s' h (Node l) (λ ts us p. inside p)

  reduces_put_in : {E : Env} → Settled E → (V : Values) {ss : List Slot} (ts : Children ss) (s s' : ℕ → Term) → ((i : ℕ) → Reduces E V (s i) (s' i)) →
      (f : Children ss → Term) → ((ts us : Children ss) → StepIn E V ss ts us → Step E V (f ts) (f us)) → Reduces E V (f (substitute_children s ts)) (f (substitute_children s' ts))
  reduces_put_in d V End s s' h f g = none
  reduces_put_in d V (Child {n} t ts) s s' h f g =
      reduces_then
      (reduces_by (λ t. f (Child t (substitute_children s ts))) (λ t u p. g _ _ (in_child p)) (reduces_put d (under n V) t (overs n s) (overs n s') (points_under d n V s s' h)))
      (reduces_put_in d V ts s s' h (λ ts. f (Child (substitute (overs n s') t) ts)) (λ ts us p. g _ _ (past_child p)))
  reduces_put_in d V (Group us ts) s s' h f g =
      reduces_then (reduces_put_terms d V us s s' h (λ us. f (Group us (substitute_children s ts))) (λ ts us p. g _ _ (in_group p)))
      (reduces_put_in d V ts s s' h (λ ts. f (Group (substitute_terms s' us) ts)) (λ ts us p. g _ _ (past_group p)))

  reduces_put_terms : {E : Env} → Settled E → (V : Values) (ts : Terms) (s s' : ℕ → Term) → ((i : ℕ) → Reduces E V (s i) (s' i)) →
      (f : Terms → Term) → ((ts us : Terms) → StepTerms E V ts us → Step E V (f ts) (f us)) → Reduces E V (f (substitute_terms s ts)) (f (substitute_terms s' ts))
  reduces_put_terms d V Done s s' h f g = none
  reduces_put_terms d V (Next n t ts) s s' h f g =
      reduces_then
      (reduces_by (λ t. f (Next n t (substitute_terms s ts))) (λ t u p. g _ _ (in_first p)) (reduces_put d (under n V) t (overs n s) (overs n s') (points_under d n V s s' h)))
      (reduces_put_terms d V ts s s' h (λ ts. f (Next n (substitute (overs n s') t) ts)) (λ ts us p. g _ _ (in_rest p)))

-- the values of a context put in

expanding_points : {E : Env} → Settled E → (V : Values) (i : ℕ) → Reduces E V (Rel i) (expanding V i)
expanding_points d [] i = none
expanding_points d (None ∷ V) zero = none
expanding_points d (None ∷ V) (suc i) = reduces_lifted d (expanding_points d V i) None
expanding_points d (Some b ∷ V) zero =
    more (root (variable refl)) (reduces_lifted d (reduces_at (substitute_same b) refl (reduces_put d V b Rel (expanding V) (expanding_points d V))) (Some b))
expanding_points d (Some b ∷ V) (suc i) = reduces_lifted d (expanding_points d V i) (Some b)

pub reduces_expanded : {E : Env} → Settled E → (V : Values) (t : Term) → Reduces E V t (substitute (expanding V) t)
reduces_expanded d V t = reduces_at (substitute_same t) refl (reduces_put d V t Rel (expanding V) (expanding_points d V))
