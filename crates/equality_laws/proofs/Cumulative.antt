-- Cumulativity after reduction: a sort is at most those that it entails, and products vary in their codomain.
use Rattle.std.proofs.Common.{◌≡◌, List, refl, sym, ap, subst, ◌∙◌}
use Rattle.universe_levels.specs.declared.sort.Sort.{Sort}
use Rattle.pc_terms.specs.Syntax.{Term, End, Child, ProdOf, SortT, Prod, head, args}
use Rattle.calculus_rules.specs.Environment.{Env, SortEntails}
use Rattle.equality_laws.proofs.Reducing.{Par, ParEach, sorts, inside, contract, end, and, Steps, none, more, Convertible}
use Rattle.equality_laws.proofs.Roots.{Settled, entails_same, entails_then}
use Rattle.equality_laws.proofs.Spines.{Stays, stays}
use Rattle.equality_laws.proofs.Confluence.{confluent}
use Rattle.equality_laws.proofs.Convertible.{steps_then, none_in, steps_child, steps_node}

pub data AtMost (E : Env) : Term → Term → Type 0 where
  same : {t : Term} → AtMost E t t
  sort : {s s' : Sort} → SortEntails E s s' → AtMost E (SortT s) (SortT s')
  product : {A B B' : Term} → AtMost E B B' → AtMost E (Prod A B) (Prod A B')

-- after some steps the first is at most the second
pub record Sub (E : Env) (t u : Term) : Type 0 where
  pub lower : Term
  pub upper : Term
  pub left : Steps E t lower
  pub right : Steps E u upper
  pub at_most : AtMost E lower upper

pub of_convertible : {E : Env} (t u : Term) → Convertible E t u → Sub E t u
of_convertible t u h = record { lower = h.common; upper = h.common; left = h.left; right = h.right; at_most = same }

-- transitive: what is at most another follows its steps, and the other way round

at_most_then : {E : Env} {t u w : Term} → AtMost E t u → AtMost E u w → AtMost E t w
at_most_then same b = b
at_most_then (sort p) same = sort p
at_most_then {E} (sort {s = r} {s' = s} p) (sort {s' = t} q) = sort (entails_then E r s t p q)
at_most_then (product a) same = product a
at_most_then (product a) (product b) = product (at_most_then a b)

-- a reduct that a term is at most, and one that is at most a term
record ReductAbove (E : Env) (t u : Term) : Type 0 where
  upper : Term
  steps : Steps E u upper
  at_most : AtMost E t upper

record ReductBelow (E : Env) (t u : Term) : Type 0 where
  lower : Term
  steps : Steps E t lower
  at_most : AtMost E lower u

steps_product : {E : Env} (A A' B B' : Term) → Steps E A A' → Steps E B B' → Steps E (Prod A B) (Prod A' B')
steps_product A A' B B' p q =
    steps_node ProdOf (Child A (Child B End)) (Child A' (Child B' End)) (steps_child _ _ A A' (Child B End) (Child B' End) p (steps_child _ _ B B' End End q none_in))

par_below : {E : Env} {t t' u : Term} → AtMost E t u → Par E t t' → ReductAbove E t' u
par_below same p = record { upper = _; steps = more p none; at_most = same }
par_below (sort p) (inside end) = record { upper = _; steps = none; at_most = sort p }
par_below {E} (sort {s = s} {s' = t} p) (sorts {s' = r} q q') = record { upper = SortT t; steps = none; at_most = sort (entails_then E r s t q' p) }
par_below (sort p) (contract end r) = elim r [ ]
par_below (product {A} {B} {B'} a) (inside (and {u = A'} p (and q end))) =
    let r = par_below a q in
    record { upper = Prod A' r.upper; steps = steps_product A A' B' r.upper (more p none) r.steps; at_most = product r.at_most }
par_below (product a) (contract p r) = elim r [ ]

par_above : {E : Env} {t u u' : Term} → AtMost E t u → Par E u u' → ReductBelow E t u'
par_above same p = record { lower = _; steps = more p none; at_most = same }
par_above (sort p) (inside end) = record { lower = _; steps = none; at_most = sort p }
par_above {E} (sort {s = s} {s' = t} p) (sorts {s' = r} q q') = record { lower = SortT s; steps = none; at_most = sort (entails_then E s t r p q) }
par_above (sort p) (contract end r) = elim r [ ]
par_above (product {A} {B} {B'} a) (inside (and {u = A'} p (and q end))) =
    let r = par_above a q in
    record { lower = Prod A' r.lower; steps = steps_product A A' B r.lower (more p none) r.steps; at_most = product r.at_most }
par_above (product a) (contract p r) = elim r [ ]

steps_below : {E : Env} (t t' u : Term) → AtMost E t u → Steps E t t' → ReductAbove E t' u
steps_below t t' u a none = record { upper = u; steps = none; at_most = a }
steps_below t t' u a (more {u = x} p ps) =
    let r = par_below a p in
    let s = steps_below x t' r.upper r.at_most ps in
    record { upper = s.upper; steps = steps_then u r.upper s.upper r.steps s.steps; at_most = s.at_most }

steps_above : {E : Env} (t u u' : Term) → AtMost E t u → Steps E u u' → ReductBelow E t u'
steps_above t u u' a none = record { lower = t; steps = none; at_most = a }
steps_above t u u' a (more {u = x} p ps) =
    let r = par_above a p in
    let s = steps_above r.lower x u' r.at_most ps in
    record { lower = s.lower; steps = steps_then t r.lower s.lower r.steps s.steps; at_most = s.at_most }

pub sub_then : {E : Env} → Settled E → (t u w : Term) → Sub E t u → Sub E u w → Sub E t w
sub_then d t u w h g =
    let m = confluent d u h.upper g.lower h.right g.left in
    let l = steps_above h.lower h.upper m.common h.at_most m.left in
    let r = steps_below g.lower m.common g.upper g.at_most m.right in
    record {
      lower = l.lower;
      upper = r.upper;
      left = steps_then t h.lower l.lower h.left l.steps;
      right = steps_then w g.upper r.upper g.right r.steps;
      at_most = at_most_then l.at_most r.at_most;
    }

pub sub_product : {E : Env} (A A' B B' : Term) → Convertible E A A' → Sub E B B' → Sub E (Prod A B) (Prod A' B')
sub_product A A' B B' h g =
    record {
      lower = Prod h.common g.lower;
      upper = Prod h.common g.upper;
      left = steps_product A h.common B g.lower h.left g.left;
      right = steps_product A' h.common B' g.upper h.right g.right;
      at_most = product g.at_most;
    }

pub sub_sort : {E : Env} (s s' : Sort) → SortEntails E s s' → Sub E (SortT s) (SortT s')
sub_sort s s' p = record { lower = SortT s; upper = SortT s'; left = none; right = none; at_most = sort p }

pub sorts_convertible : {E : Env} (s s' : Sort) → SortEntails E s s' → SortEntails E s' s → Convertible E (SortT s) (SortT s')
sorts_convertible s s' p q = record { common = SortT s'; left = more (sorts p q) none; right = none }

-- where steps from a former lead

pub record FromProduct (E : Env) (A B T : Term) : Type 0 where
  pub domain : Term
  pub codomain : Term
  pub is : T ≡ Prod domain codomain
  pub left : Steps E A domain
  pub right : Steps E B codomain

pub from_product : {E : Env} (A B T : Term) → Steps E (Prod A B) T → FromProduct E A B T
from_product A B T none = record { domain = A; codomain = B; is = refl; left = none; right = none }
from_product A B T (more (inside (and {u = A'} p (and {u = B'} q end))) ps) =
    let r = from_product A' B' T ps in
    record { domain = r.domain; codomain = r.codomain; is = r.is; left = more p r.left; right = more q r.right }
from_product A B T (more (contract p r) ps) = elim r [ ]

pub record FromSort (E : Env) (s : Sort) (T : Term) : Type 0 where
  pub sort' : Sort
  pub is : T ≡ SortT sort'
  pub to : SortEntails E s sort'
  pub from : SortEntails E sort' s

pub from_sort : {E : Env} (s : Sort) (T : Term) → Steps E (SortT s) T → FromSort E s T
from_sort {E} s T none = record { sort' = s; is = refl; to = entails_same E s; from = entails_same E s }
from_sort s T (more (inside end) ps) = from_sort s T ps
from_sort {E} s T (more (sorts {s' = r} p q) ps) =
    let f = from_sort r T ps in
    record { sort' = f.sort'; is = f.is; to = entails_then E s r f.sort' p f.to; from = entails_then E f.sort' r s f.from q }
from_sort s T (more (contract end r) ps) = elim r [ ]

-- several steps of each term of a list
pub data StepsEach (E : Env) : List Term → List Term → Type 0 where
  each_stays : {ts : List Term} → StepsEach E ts ts
  each_more : {ts us ws : List Term} → ParEach E ts us → StepsEach E us ws → StepsEach E ts ws

pub record FromSpine (E : Env) (t T : Term) : Type 0 where
  pub at_head : head T ≡ head t
  pub arguments : StepsEach E (args t) (args T)

pub from_spine : {E : Env} (t T : Term) → Stays (head t) → Steps E t T → FromSpine E t T
from_spine t T h none = record { at_head = refl; arguments = each_stays }
from_spine t T h (more {u = u} p ps) =
    let k = stays p h in
    let r = from_spine u T (subst Stays (sym k.at_head) h) ps in
    record { at_head = r.at_head ∙ k.at_head; arguments = each_more k.arguments r.arguments }

-- what is below what

at_most_is : {E : Env} {t t' u u' : Term} → t ≡ t' → u ≡ u' → AtMost E t u → AtMost E t' u'
at_most_is {E} {t} {t'} {u} {u'} e f a = subst (λ u. AtMost E t' u) f (subst (λ t. AtMost E t u) e a)

pub record ProductsBelow (E : Env) (A A' B B' : Term) : Type 0 where
  pub domains : Convertible E A A'
  pub codomains : Sub E B B'

-- products of which one is at most the other have the same domain
products_at_most : {E : Env} (A A' B B' : Term) → AtMost E (Prod A B) (Prod A' B') → (A ≡ A') × AtMost E B B'
products_at_most A A' B B' same = (refl, same)
products_at_most A A' B B' (product a) = (refl, a)

pub products_below : {E : Env} (A A' B B' : Term) → Sub E (Prod A B) (Prod A' B') → ProductsBelow E A A' B B'
products_below {E} A A' B B' h =
    let l = from_product A B h.lower h.left in
    let r = from_product A' B' h.upper h.right in
    let (e, a) = products_at_most l.domain r.domain l.codomain r.codomain (at_most_is l.is r.is h.at_most) in
    record {
      domains = record { common = r.domain; left = subst (λ D. Steps E A D) e l.left; right = r.left };
      codomains = record { lower = l.codomain; upper = r.codomain; left = l.right; right = r.right; at_most = a };
    }

-- products with a common reduct

abbrev domain_of : Term → Term
domain_of (Prod A B) = A
domain_of t = t

abbrev codomain_of : Term → Term
codomain_of (Prod A B) = B
codomain_of t = t

pub record ProductsConvertible (E : Env) (A A' B B' : Term) : Type 0 where
  pub domains : Convertible E A A'
  pub codomains : Convertible E B B'

pub products_convertible : {E : Env} (A A' B B' : Term) → Convertible E (Prod A B) (Prod A' B') → ProductsConvertible E A A' B B'
products_convertible {E} A A' B B' h =
    let l = from_product A B h.common h.left in
    let r = from_product A' B' h.common h.right in
    let e : Prod l.domain l.codomain ≡ Prod r.domain r.codomain = sym l.is ∙ r.is in
    let domain : l.domain ≡ r.domain = ap domain_of e in
    let codomain : l.codomain ≡ r.codomain = ap codomain_of e in
    record {
      domains = record { common = r.domain; left = subst (λ D. Steps E A D) domain l.left; right = r.left };
      codomains = record { common = r.codomain; left = subst (λ D. Steps E B D) codomain l.right; right = r.right };
    }

sorts_at_most : {E : Env} (s s' : Sort) → AtMost E (SortT s) (SortT s') → SortEntails E s s'
sorts_at_most {E} s s' same = entails_same E s
sorts_at_most s s' (sort p) = p

pub sorts_below : {E : Env} (s s' : Sort) → Sub E (SortT s) (SortT s') → SortEntails E s s'
sorts_below {E} s s' h =
    let l = from_sort s h.lower h.left in
    let r = from_sort s' h.upper h.right in
    let p = sorts_at_most l.sort' r.sort' (at_most_is l.is r.is h.at_most) in
    entails_then E s l.sort' s' l.to (entails_then E l.sort' r.sort' s' p r.from)

-- terms whose heads stay

pub stays_at_most : {E : Env} {t u : Term} → Stays (head t) → AtMost E t u → t ≡ u
stays_at_most h same = refl
stays_at_most h (sort p) = absurd h
stays_at_most h (product a) = absurd h

pub at_most_stays : {E : Env} {t u : Term} → Stays (head u) → AtMost E t u → t ≡ u
at_most_stays h same = refl
at_most_stays h (sort p) = absurd h
at_most_stays h (product a) = absurd h

-- two lists with a common reduct, each term with the one at its place
pub record MetEach (E : Env) (xs ys : List Term) : Type 0 where
  pub common : List Term
  pub left : StepsEach E xs common
  pub right : StepsEach E ys common

pub record SpinesMet (E : Env) (t u : Term) : Type 0 where
  pub same_head : head t ≡ head u
  pub arguments : MetEach E (args t) (args u)

pub spines_below : {E : Env} (t u : Term) → Stays (head t) → Stays (head u) → Sub E t u → SpinesMet E t u
spines_below {E} t u p q h =
    let l = from_spine t h.lower p h.left in
    let r = from_spine u h.upper q h.right in
    let e : h.lower ≡ h.upper = stays_at_most (subst Stays (sym l.at_head) p) h.at_most in
    record {
      same_head = sym l.at_head ∙ ap head e ∙ r.at_head;
      arguments = record { common = args h.upper; left = subst (λ T. StepsEach E (args t) (args T)) e l.arguments; right = r.arguments };
    }

-- the three kinds are apart

stays_not_product : (A B T : Term) → T ≡ Prod A B → Stays (head T) → ⊥
stays_not_product A B T e h = subst (λ T. Stays (head T)) e h

stays_not_sort : (s : Sort) (T : Term) → T ≡ SortT s → Stays (head T) → ⊥
stays_not_sort s T e h = subst (λ T. Stays (head T)) e h

pub product_not_sort : {E : Env} (A B : Term) (s : Sort) → Sub E (Prod A B) (SortT s) → ⊥
product_not_sort {E} A B s h =
    let l = from_product A B h.lower h.left in
    let r = from_sort s h.upper h.right in
    apart l.domain l.codomain r.sort' (at_most_is l.is r.is h.at_most)
  where
    apart : (A B : Term) (s : Sort) → AtMost E (Prod A B) (SortT s) → ⊥
    apart A B s a = elim a [ ]

pub sort_not_product : {E : Env} (A B : Term) (s : Sort) → Sub E (SortT s) (Prod A B) → ⊥
sort_not_product {E} A B s h =
    let l = from_sort s h.lower h.left in
    let r = from_product A B h.upper h.right in
    apart r.domain r.codomain l.sort' (at_most_is l.is r.is h.at_most)
  where
    apart : (A B : Term) (s : Sort) → AtMost E (SortT s) (Prod A B) → ⊥
    apart A B s a = elim a [ ]

pub product_not_stays : {E : Env} (A B t : Term) → Stays (head t) → Sub E (Prod A B) t → ⊥
product_not_stays A B t p h =
    let l = from_product A B h.lower h.left in
    let r = from_spine t h.upper p h.right in
    let q : Stays (head h.upper) = subst Stays (sym r.at_head) p in
    stays_not_product l.domain l.codomain h.upper (sym (at_most_stays q h.at_most) ∙ l.is) q

pub stays_below_no_product : {E : Env} (A B t : Term) → Stays (head t) → Sub E t (Prod A B) → ⊥
stays_below_no_product A B t p h =
    let l = from_spine t h.lower p h.left in
    let r = from_product A B h.upper h.right in
    let q : Stays (head h.lower) = subst Stays (sym l.at_head) p in
    stays_not_product r.domain r.codomain h.lower (stays_at_most q h.at_most ∙ r.is) q

pub sort_not_stays : {E : Env} (s : Sort) (t : Term) → Stays (head t) → Sub E (SortT s) t → ⊥
sort_not_stays s t p h =
    let l = from_sort s h.lower h.left in
    let r = from_spine t h.upper p h.right in
    let q : Stays (head h.upper) = subst Stays (sym r.at_head) p in
    stays_not_sort l.sort' h.upper (sym (at_most_stays q h.at_most) ∙ l.is) q

pub stays_below_no_sort : {E : Env} (s : Sort) (t : Term) → Stays (head t) → Sub E t (SortT s) → ⊥
stays_below_no_sort s t p h =
    let l = from_spine t h.lower p h.left in
    let r = from_sort s h.upper h.right in
    let q : Stays (head h.lower) = subst Stays (sym l.at_head) p in
    stays_not_sort r.sort' h.lower (stays_at_most q h.at_most ∙ r.is) q
