-- What is below what, in a settled environment: products, sorts, applied families and constructors. The values of the context are put in first, and the answers are equal to those
-- without.
use Rattle.std.proofs.Common.{◌≡◌, ℕ, List, [], ◌∷◌, map, None, sym, ap, subst, ◌∙◌}
use Rattle.universe_levels.specs.declared.sort.Sort.{Sort}
use Rattle.pc_terms.specs.declared.leaf.FamilyId.{FamilyId}
use Rattle.pc_terms.specs.Syntax.{Term, SortT, Prod, Ind, Construct, apply, head, args, substitute}
use Rattle.calculus_rules.specs.Environment.{Env, SortEntails}
use Rattle.calculus_rules.specs.Context.{Values}
use Rattle.calculus_rules.specs.Conversion.{Equal, Below, back, chain, equal, same}
use Rattle.calculus_rules.proofs.Spines.{head-apply, args-apply, substitute-apply}
use Rattle.equality_laws.specs.Laws.{EqualEach, no_terms, a_term}
use Rattle.equality_laws.proofs.Reducing.{ParEach, each_none, each_one, Convertible}
use Rattle.equality_laws.proofs.Roots.{Settled}
use Rattle.equality_laws.proofs.Spines.{Stays}
use Rattle.equality_laws.proofs.Cumulative.{Sub, StepsEach, each_stays, each_more, MetEach, products_below, products_convertible, sorts_below, spines_below, product_not_sort, sort_not_product, product_not_stays, stays_below_no_product, sort_not_stays, stays_below_no_sort}
use Rattle.equality_laws.proofs.FromEquality.{equality_carried, below_carried}
use Rattle.equality_laws.proofs.ToEquality.{of_step, convertible_equal, sub_below, expanding, expanding_meets, expanded}

-- there and back, in a context of any values

there : {E : Env} → Settled E → (V : Values) (t u : Term) → Equal E V t u → Convertible E (substitute (expanding V) t) (substitute (expanding V) u)
there d V t u e = equality_carried d V (expanding V) t u (expanding_meets d V) e

pub below_there : {E : Env} → Settled E → (V : Values) (t u : Term) → Below E V t u → Sub E (substitute (expanding V) t) (substitute (expanding V) u)
below_there d V t u b = below_carried d V (expanding V) t u (expanding_meets d V) b

from_there : {E : Env} → Settled E → (V : Values) (t u : Term) → Convertible E (substitute (expanding V) t) (substitute (expanding V) u) → Equal E V t u
from_there d V t u h =
    chain (expanded d V t) (chain (convertible_equal V (substitute (expanding V) t) (substitute (expanding V) u) h) (back (expanded d V u)))

below_from_there : {E : Env} → Settled E → (V : Values) (t u : Term) → Sub E (substitute (expanding V) t) (substitute (expanding V) u) → Below E V t u
below_from_there d V t u h =
    Below.chain (equal (expanded d V t)) (Below.chain (sub_below V (substitute (expanding V) t) (substitute (expanding V) u) h) (equal (back (expanded d V u))))

-- products

pub equal_products : {E : Env} → Settled E → (V : Values) (A A' B B' : Term) → Equal E V (Prod A B) (Prod A' B') → Equal E V A A' × Equal E (None ∷ V) B B'
equal_products d V A A' B B' e =
    let s = expanding V in
    let s' = expanding (None ∷ V) in
    let h = products_convertible (substitute s A) (substitute s A') (substitute s' B) (substitute s' B') (there d V (Prod A B) (Prod A' B') e) in
    (from_there d V A A' h.domains, from_there d (None ∷ V) B B' h.codomains)

pub below_products : {E : Env} → Settled E → (V : Values) (A A' B B' : Term) → Below E V (Prod A B) (Prod A' B') → Equal E V A A' × Below E (None ∷ V) B B'
below_products d V A A' B B' b =
    let s = expanding V in
    let s' = expanding (None ∷ V) in
    let h = products_below (substitute s A) (substitute s A') (substitute s' B) (substitute s' B') (below_there d V (Prod A B) (Prod A' B') b) in
    (from_there d V A A' h.domains, below_from_there d (None ∷ V) B B' h.codomains)

-- sorts

pub below_sorts : {E : Env} → Settled E → (V : Values) (s s' : Sort) → Below E V (SortT s) (SortT s') → SortEntails E s s'
below_sorts d V s s' b = sorts_below s s' (below_there d V (SortT s) (SortT s') b)

-- families and constructors, applied

pub each_equal_back : {E : Env} {V : Values} {ts us : List Term} → EqualEach E V ts us → EqualEach E V us ts
each_equal_back no_terms = no_terms
each_equal_back (a_term e es) = a_term (back e) (each_equal_back es)

pub each_equal_chain : {E : Env} {V : Values} {ts us ws : List Term} → EqualEach E V ts us → EqualEach E V us ws → EqualEach E V ts ws
each_equal_chain no_terms no_terms = no_terms
each_equal_chain (a_term e es) (a_term f fs) = a_term (chain e f) (each_equal_chain es fs)

pub each_equal_same : {E : Env} {V : Values} (ts : List Term) → EqualEach E V ts ts
each_equal_same [] = no_terms
each_equal_same (t ∷ ts) = a_term same (each_equal_same ts)

each_expanded : {E : Env} → Settled E → (V : Values) (ts : List Term) → EqualEach E V ts (map (substitute (expanding V)) ts)
each_expanded d V [] = no_terms
each_expanded d V (t ∷ ts) = a_term (expanded d V t) (each_expanded d V ts)

each_step : {E : Env} (V : Values) {ts us : List Term} → ParEach E ts us → EqualEach E V ts us
each_step V each_none = no_terms
each_step V (each_one {t = t} {u = u} p ps) = a_term (of_step V t u p) (each_step V ps)

each_steps : {E : Env} (V : Values) {ts us : List Term} → StepsEach E ts us → EqualEach E V ts us
each_steps V (each_stays {ts = ts}) = each_equal_same ts
each_steps V (each_more p ps) = each_equal_chain (each_step V p) (each_steps V ps)

each_met : {E : Env} (V : Values) (ts us : List Term) → MetEach E ts us → EqualEach E V ts us
each_met V ts us m = each_equal_chain (each_steps V m.left) (each_equal_back (each_steps V m.right))

-- what is applied
pub data IsAtom : Term → Type 0 where
  family : {f : FamilyId} → IsAtom (Ind f)
  constructor : {f : FamilyId} {c : ℕ} → IsAtom (Construct f c)

pub head_put : {h : Term} (s : ℕ → Term) (xs : List Term) → IsAtom h → head (substitute s (apply h xs)) ≡ h
head_put {h} s xs (family {f}) = ap head (substitute-apply s (Ind f) xs) ∙ head-apply (Ind f) (map (substitute s) xs)
head_put {h} s xs (constructor {f} {c}) = ap head (substitute-apply s (Construct f c) xs) ∙ head-apply (Construct f c) (map (substitute s) xs)

args_put : {h : Term} (s : ℕ → Term) (xs : List Term) → IsAtom h → args (substitute s (apply h xs)) ≡ map (substitute s) xs
args_put {h} s xs (family {f}) = ap args (substitute-apply s (Ind f) xs) ∙ args-apply (Ind f) (map (substitute s) xs)
args_put {h} s xs (constructor {f} {c}) = ap args (substitute-apply s (Construct f c) xs) ∙ args-apply (Construct f c) (map (substitute s) xs)

atom_stays : {h : Term} → IsAtom h → Stays h
atom_stays family = tt
atom_stays constructor = tt

pub applied_stays : {h : Term} (s : ℕ → Term) (xs : List Term) → IsAtom h → Stays (head (substitute s (apply h xs)))
applied_stays s xs a = subst Stays (sym (head_put s xs a)) (atom_stays a)

below_applied : {E : Env} → Settled E → (V : Values) (h g : Term) (xs ys : List Term) → IsAtom h → IsAtom g → Below E V (apply h xs) (apply g ys) → (h ≡ g) × EqualEach E V xs ys
below_applied {E} d V h g xs ys p q b =
    let s = expanding V in
    let m = spines_below (substitute s (apply h xs)) (substitute s (apply g ys)) (applied_stays s xs p) (applied_stays s ys q) (below_there d V (apply h xs) (apply g ys) b) in
    let met = each_met V (args (substitute s (apply h xs))) (args (substitute s (apply g ys))) m.arguments in
    let here = subst (λ us. EqualEach E V (map (substitute s) xs) us) (args_put s ys q) (subst (λ ts. EqualEach E V ts (args (substitute s (apply g ys)))) (args_put s xs p) met) in
    (sym (head_put s xs p) ∙ m.same_head ∙ head_put s ys q, each_equal_chain (each_expanded d V xs) (each_equal_chain here (each_equal_back (each_expanded d V ys))))

same_family : (f g : FamilyId) → Ind f ≡ Ind g → f ≡ g
same_family f g e = cc

same_constructor : (f g : FamilyId) (c k : ℕ) → Construct f c ≡ Construct g k → (f ≡ g) × (c ≡ k)
same_constructor f g c k e = (cc, cc)

pub below_families : {E : Env} → Settled E → (V : Values) (f g : FamilyId) (xs ys : List Term) → Below E V (apply (Ind f) xs) (apply (Ind g) ys) → (f ≡ g) × EqualEach E V xs ys
below_families d V f g xs ys b = let (e, es) = below_applied d V (Ind f) (Ind g) xs ys family family b in (same_family f g e, es)

pub equal_constructors : {E : Env} → Settled E → (V : Values) (f g : FamilyId) (c k : ℕ) (xs ys : List Term) → Equal E V (apply (Construct f c) xs) (apply (Construct g k) ys) →
    (f ≡ g) × (c ≡ k) × EqualEach E V xs ys
equal_constructors d V f g c k xs ys e =
    let (h, es) = below_applied d V (Construct f c) (Construct g k) xs ys constructor constructor (equal e) in
    let same = same_constructor f g c k h in
    (same.0, same.1, es)

-- apart

pub product_is_no_sort : {E : Env} → Settled E → (V : Values) (A B : Term) (s : Sort) → Below E V (Prod A B) (SortT s) → ⊥
product_is_no_sort d V A B s b = product_not_sort (substitute (expanding V) A) (substitute (expanding (None ∷ V)) B) s (below_there d V (Prod A B) (SortT s) b)

pub sort_is_no_product : {E : Env} → Settled E → (V : Values) (A B : Term) (s : Sort) → Below E V (SortT s) (Prod A B) → ⊥
sort_is_no_product d V A B s b = sort_not_product (substitute (expanding V) A) (substitute (expanding (None ∷ V)) B) s (below_there d V (SortT s) (Prod A B) b)

pub product_is_no_family : {E : Env} → Settled E → (V : Values) (A B : Term) (f : FamilyId) (xs : List Term) → Below E V (Prod A B) (apply (Ind f) xs) → ⊥
product_is_no_family d V A B f xs b =
    let s = expanding V in
    product_not_stays (substitute s A) (substitute (expanding (None ∷ V)) B) (substitute s (apply (Ind f) xs)) (applied_stays s xs family)
    (below_there d V (Prod A B) (apply (Ind f) xs) b)

pub family_is_no_product : {E : Env} → Settled E → (V : Values) (A B : Term) (f : FamilyId) (xs : List Term) → Below E V (apply (Ind f) xs) (Prod A B) → ⊥
family_is_no_product d V A B f xs b =
    let s = expanding V in
    stays_below_no_product (substitute s A) (substitute (expanding (None ∷ V)) B) (substitute s (apply (Ind f) xs)) (applied_stays s xs family)
    (below_there d V (apply (Ind f) xs) (Prod A B) b)

pub sort_is_no_family : {E : Env} → Settled E → (V : Values) (s : Sort) (f : FamilyId) (xs : List Term) → Below E V (SortT s) (apply (Ind f) xs) → ⊥
sort_is_no_family d V s f xs b =
    let q = expanding V in
    sort_not_stays s (substitute q (apply (Ind f) xs)) (applied_stays q xs family) (below_there d V (SortT s) (apply (Ind f) xs) b)

pub family_is_no_sort : {E : Env} → Settled E → (V : Values) (s : Sort) (f : FamilyId) (xs : List Term) → Below E V (apply (Ind f) xs) (SortT s) → ⊥
family_is_no_sort d V s f xs b =
    let q = expanding V in
    stays_below_no_sort s (substitute q (apply (Ind f) xs)) (applied_stays q xs family) (below_there d V (apply (Ind f) xs) (SortT s) b)
