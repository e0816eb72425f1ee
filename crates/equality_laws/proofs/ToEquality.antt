-- Reduction is equality again, with any values; and a term is equal to itself with the values put in.
use Rattle.std.proofs.Common.{ℕ, zero, suc, ◌≡◌, List, [], ◌∷◌, Some, None, refl, sym, ap, ◌∙◌}
use Rattle.pc_terms.specs.Syntax.{Slot, Term, Terms, Children, End, Child, Group, Done, Next, Rel, Node, rename, substitute, substitute_children, substitute_terms, over, overs, first}
use Rattle.calculus_rules.specs.Environment.{Env}
use Rattle.calculus_rules.specs.Context.{Values, value_at, under}
use Rattle.calculus_rules.specs.Step.{variable}
use Rattle.calculus_rules.specs.Conversion.{Equal, step, sorts, same, back, chain, inside, EqualChildren, EqualTerms, Below, equal}
use Rattle.calculus_rules.specs.Conversion as equality
use Rattle.calculus_rules.proofs.Spines.{one_item}
use Rattle.typing_laws.proofs.RenamingAndPutting.{lifted_some, weaken_equal}
use Rattle.typing_laws.proofs.Traversal.{equal_at}
use Rattle.trees.proofs.Put.{substitute_same}
use Rattle.trees.proofs.Fusion.{substitute-rename, rename-substitute}
use Rattle.equality_laws.proofs.Reducing.{Par, ParIn, ParTerms, Steps, none, more, Convertible, rel, contract, end, and, group, done, next}
use Rattle.equality_laws.proofs.Roots.{Settled, root_anywhere}
use Rattle.equality_laws.proofs.Convertible.{convertible_is}
use Rattle.equality_laws.proofs.Cumulative.{AtMost, Sub}
use Rattle.equality_laws.proofs.FromEquality.{Meets, meets_over, convertible_at, convertible_lifted}

mutual
  par_equal : {E : Env} (V : Values) {t u : Term} → Par E t u → Equal E V t u
  par_equal V rel = same
  par_equal V (Par.sorts p q) = sorts p q
  par_equal V (Par.inside p) = inside (par_in_equal V p)
  par_equal V (contract p r) = chain (inside (par_in_equal V p)) (step (root_anywhere V r))

  par_in_equal : {E : Env} (V : Values) {ss : List Slot} {ts us : Children ss} → ParIn E ss ts us → EqualChildren E V ss ts us
  par_in_equal V end = equality.end
  par_in_equal V (and {n = n} p ps) = equality.and (par_equal (under n V) p) (par_in_equal V ps)
  par_in_equal V (group p ps) = equality.group (par_terms_equal V p) (par_in_equal V ps)

  par_terms_equal : {E : Env} (V : Values) {ts us : Terms} → ParTerms E ts us → EqualTerms E V ts us
  par_terms_equal V done = equality.done
  par_terms_equal V (next {n = n} p ps) = equality.next (par_equal (under n V) p) (par_terms_equal V ps)

pub of_step : {E : Env} (V : Values) (t u : Term) → Par E t u → Equal E V t u
of_step V t u p = par_equal V p

pub steps_equal : {E : Env} (V : Values) (t u : Term) → Steps E t u → Equal E V t u
steps_equal V t u none = same
steps_equal V t u (more {u = x} p ps) = chain (par_equal V p) (steps_equal V x u ps)

pub convertible_equal : {E : Env} (V : Values) (t u : Term) → Convertible E t u → Equal E V t u
convertible_equal V t u h = chain (steps_equal V t h.common h.left) (back (steps_equal V u h.common h.right))

at_most_below : {E : Env} (V : Values) {t u : Term} → AtMost E t u → Below E V t u
at_most_below V AtMost.same = equal same
at_most_below V (AtMost.sort p) = Below.sort p
at_most_below V (AtMost.product a) = Below.product same (at_most_below (None ∷ V) a)

pub sub_below : {E : Env} (V : Values) (t u : Term) → Sub E t u → Below E V t u
sub_below V t u h =
    Below.chain (equal (steps_equal V t h.lower h.left)) (Below.chain (at_most_below V h.at_most) (equal (back (steps_equal V u h.upper h.right))))

-- equal terms put in for the variables

points_under : {E : Env} → Settled E → (n : ℕ) (V : Values) (s s' : ℕ → Term) → ((i : ℕ) → Equal E V (s i) (s' i)) → (i : ℕ) → Equal E (under n V) (overs n s i) (overs n s' i)
points_under d zero V s s' h i = h i
points_under d (suc n) V s s' h zero = same
points_under d (suc n) V s s' h (suc i) = weaken_equal d.closed (points_under d n V s s' h i) None

mutual
  equal_put : {E : Env} → Settled E → (V : Values) (t : Term) (s s' : ℕ → Term) → ((i : ℕ) → Equal E V (s i) (s' i)) → Equal E V (substitute s t) (substitute s' t)
  equal_put d V (Rel i) s s' h = h i
  equal_put d V (Node l ts) s s' h = inside (equal_put_in d V ts s s' h)

  equal_put_in : {E : Env} → Settled E → (V : Values) {ss : List Slot} (ts : Children ss) (s s' : ℕ → Term) → ((i : ℕ) → Equal E V (s i) (s' i)) →
      EqualChildren E V ss (substitute_children s ts) (substitute_children s' ts)
  equal_put_in d V End s s' h = equality.end
  equal_put_in d V (Child {n} t ts) s s' h = equality.and (equal_put d (under n V) t (overs n s) (overs n s') (points_under d n V s s' h)) (equal_put_in d V ts s s' h)
  equal_put_in d V (Group us ts) s s' h = equality.group (equal_put_terms d V us s s' h) (equal_put_in d V ts s s' h)

  equal_put_terms : {E : Env} → Settled E → (V : Values) (ts : Terms) (s s' : ℕ → Term) → ((i : ℕ) → Equal E V (s i) (s' i)) →
      EqualTerms E V (substitute_terms s ts) (substitute_terms s' ts)
  equal_put_terms d V Done s s' h = equality.done
  equal_put_terms d V (Next n t ts) s s' h = equality.next (equal_put d (under n V) t (overs n s) (overs n s') (points_under d n V s s' h)) (equal_put_terms d V ts s s' h)

-- the values of a context put in, with the variables that have one left unused

abbrev pub expanding : Values → ℕ → Term
expanding [] = Rel
expanding (None ∷ V) = over (expanding V)
expanding (Some b ∷ V) = first (rename suc (substitute (expanding V) b)) (λ i. rename suc (expanding V i))

expanding_lifted : (a : Term) (s : ℕ → Term) (t : Term) → rename suc (substitute s t) ≡ substitute (first a (λ i. rename suc (s i))) (rename suc t)
expanding_lifted a s t = rename-substitute t s suc ∙ sym (substitute-rename t suc (first a (λ i. rename suc (s i))))

pub expanding_meets : {E : Env} → Settled E → (V : Values) → Meets E (expanding V) V
expanding_meets d [] i v e = absurd (cc)
expanding_meets d (None ∷ V) i v e = meets_over d (expanding V) V (expanding_meets d V) i v e
expanding_meets d (Some b ∷ V) zero v e =
    let a = rename suc (substitute (expanding V) b) in
    convertible_is a (substitute (expanding (Some b ∷ V)) v) (expanding_lifted a (expanding V) b ∙ ap (substitute (expanding (Some b ∷ V))) (one_item e))
expanding_meets d (Some b ∷ V) (suc i) v e =
    let (u, eu, ev) = lifted_some (value_at V i) v e in
    let a = rename suc (substitute (expanding V) b) in
    convertible_at refl (expanding_lifted a (expanding V) u ∙ ap (substitute (expanding (Some b ∷ V))) (sym ev))
    (convertible_lifted d (expanding V i) (substitute (expanding V) u) (expanding_meets d V i u eu))

expanding_points : {E : Env} → Settled E → (V : Values) (i : ℕ) → Equal E V (Rel i) (expanding V i)
expanding_points d [] i = same
expanding_points d (None ∷ V) zero = same
expanding_points d (None ∷ V) (suc i) = weaken_equal d.closed (expanding_points d V i) None
expanding_points d (Some b ∷ V) zero =
    chain (step (variable refl)) (weaken_equal d.closed (equal_at (substitute_same b) refl (equal_put d V b Rel (expanding V) (expanding_points d V))) (Some b))
expanding_points d (Some b ∷ V) (suc i) = weaken_equal d.closed (expanding_points d V i) (Some b)

pub expanded : {E : Env} → Settled E → (V : Values) (t : Term) → Equal E V t (substitute (expanding V) t)
expanded d V t = equal_at (substitute_same t) refl (equal_put d V t Rel (expanding V) (expanding_points d V))
