-- What equality and cumulativity tell of products, sorts and families, and to what a term reduces that is above or below one (by confluence: the crate equality_laws).
use Rattle.std.proofs.Common.{◌≡◌, List, ◌∷◌, None, refl, sym, ap, subst, ◌∙◌}
use Rattle.universe_levels.specs.declared.sort.Sort.{Sort}
use Rattle.pc_terms.specs.declared.leaf.FamilyId.{FamilyId}
use Rattle.pc_terms.specs.Syntax.{Term, SortT, Prod, Ind, apply, head, args, substitute}
use Rattle.calculus_rules.specs.Environment.{Env, SortEntails}
use Rattle.calculus_rules.specs.Context.{Values}
use Rattle.calculus_rules.specs.Conversion.{Equal, Below}
use Rattle.calculus_rules.specs.Accepted.{IsAccepted}
use Rattle.calculus_rules.proofs.Congruence.{step_equal}
use Rattle.equality_laws.specs.Laws.{EqualEach}
use Rattle.equality_laws.proofs.Reducing.{Steps}
use Rattle.equality_laws.proofs.Roots.{Settled, settled}
use Rattle.equality_laws.proofs.Spines.{Stays, spine_is}
use Rattle.equality_laws.proofs.Cumulative.{AtMost, from_product, from_sort, from_spine, stays_at_most, at_most_stays}
use Rattle.equality_laws.proofs.ToEquality.{expanding}
use Rattle.equality_laws.proofs.Formers.{family, head_put, applied_stays, below_there, below_products, below_sorts, below_families, product_is_no_sort, sort_is_no_product, product_is_no_family, family_is_no_product, sort_is_no_family, family_is_no_sort}
use Rattle.type_laws.specs.Contexts.{Reduces}
use Rattle.type_laws.proofs.Reducts.{reduces_then, reduces_expanded}
use Rattle.type_laws.proofs.Alike.{Alike, and, end, alike_is, from_apply}
use Rattle.type_laws.proofs.Simulated.{Simulated, simulated}

pub reduces_equal : (E : Env) (V : Values) (t u : Term) → Reduces E V t u → Equal E V t u
reduces_equal E V t u Reduces.none = Equal.same
reduces_equal E V t u (Reduces.more {u = x} p ps) = Equal.chain (step_equal p) (reduces_equal E V x u ps)

pub record ProductsBelow (E : Env) (V : Values) (A B A' B' : Term) : Type 0 where
  pub domains : Equal E V A A'
  pub codomains : Below E (None ∷ V) B B'

pub products_below : (E : Env) → IsAccepted E → (V : Values) (A B A' B' : Term) → Below E V (Prod A B) (Prod A' B') → ProductsBelow E V A B A' B'
products_below E h V A B A' B' b = let (e, p) = below_products (settled E h) V A A' B B' b in record { domains = e; codomains = p }

pub sorts_below : (E : Env) → IsAccepted E → (V : Values) (s s' : Sort) → Below E V (SortT s) (SortT s') → SortEntails E s s'
sorts_below E h V s s' b = below_sorts (settled E h) V s s' b

pub record FamiliesBelow (E : Env) (V : Values) (f g : FamilyId) (xs ys : List Term) : Type 0 where
  pub family : f ≡ g
  pub arguments : EqualEach E V xs ys

pub families_below : (E : Env) → IsAccepted E → (V : Values) (f g : FamilyId) (xs ys : List Term) → Below E V (apply (Ind f) xs) (apply (Ind g) ys) → FamiliesBelow E V f g xs ys
families_below E h V f g xs ys b = let (e, es) = below_families (settled E h) V f g xs ys b in record { family = e; arguments = es }

-- to what a term reduces that is below or above one of these

abbrev pub IsProduct : Env → Values → Term → Type 0
IsProduct E V X = (A : Term) × (B : Term) × Reduces E V X (Prod A B)

abbrev pub IsSort : Env → Values → Term → Type 0
IsSort E V X = (s : Sort) × Reduces E V X (SortT s)

abbrev pub IsFamily : Env → Values → FamilyId → Term → Type 0
IsFamily E V f X = (xs : List Term) × Reduces E V X (apply (Ind f) xs)

-- a term reduces to what its parallel reducts are, but for sorts
reduced : {E : Env} → Settled E → (V : Values) (X T : Term) → Steps E (substitute (expanding V) X) T → Simulated E V X T
reduced d V X T p =
    let r = simulated V (substitute (expanding V) X) T p in
    record { reduct = r.reduct; reduces = reduces_then (reduces_expanded d V X) r.reduces; alike = r.alike }

-- what is the same as a product, a sort or an applied family but for sorts is one

reduces_to : {E : Env} {V : Values} {X t u : Term} → t ≡ u → Reduces E V X t → Reduces E V X u
reduces_to {E} {V} {X} e p = subst (λ t. Reduces E V X t) e p

is_product : {E : Env} {V : Values} {X t : Term} (A B : Term) → Alike t (Prod A B) → Reduces E V X t → IsProduct E V X
is_product A B (Alike.node (and {t = C} p (and {t = D} q end))) r = (C, D, r)

is_sort : {E : Env} {V : Values} {X t : Term} (s : Sort) → Alike t (SortT s) → Reduces E V X t → IsSort E V X
is_sort s (Alike.sorts {s = u}) r = (u, r)
is_sort s (Alike.node end) r = (s, r)

is_family : {E : Env} {V : Values} {X t : Term} (f : FamilyId) (xs : List Term) → Alike t (apply (Ind f) xs) → Reduces E V X t → IsFamily E V f X
is_family {t = t} f xs a r =
    let applied = from_apply (Ind f) xs t a in
    (applied.arguments, reduces_to (applied.is ∙ ap (λ g. apply g applied.arguments) (same applied.function applied.alike)) r)
  where
    same : (g : Term) → Alike g (Ind f) → g ≡ Ind f
    same g (Alike.node end) = refl

to_product : {E : Env} → Settled E → (V : Values) (X T A B : Term) → T ≡ Prod A B → Steps E (substitute (expanding V) X) T → IsProduct E V X
to_product d V X T A B e p = let r = reduced d V X T p in is_product A B (alike_is refl e r.alike) r.reduces

to_sort : {E : Env} → Settled E → (V : Values) (X T : Term) (s : Sort) → T ≡ SortT s → Steps E (substitute (expanding V) X) T → IsSort E V X
to_sort d V X T s e p = let r = reduced d V X T p in is_sort s (alike_is refl e r.alike) r.reduces

to_family : {E : Env} → Settled E → (V : Values) (X T : Term) (f : FamilyId) (xs : List Term) → T ≡ apply (Ind f) xs → Steps E (substitute (expanding V) X) T → IsFamily E V f X
to_family d V X T f xs e p = let r = reduced d V X T p in is_family f xs (alike_is refl e r.alike) r.reduces

-- what is at most a product or a sort is one, and the other way round

product_above : {E : Env} (t u A B : Term) → AtMost E t u → u ≡ Prod A B → (C : Term) × (D : Term) × (t ≡ Prod C D)
product_above t u A B AtMost.same e = (A, B, e)
product_above t u A B (AtMost.sort p) e = absurd (cc)
product_above t u A B (AtMost.product {A = C} {B = D} a) e = (C, D, refl)

product_under : {E : Env} (t u A B : Term) → AtMost E t u → t ≡ Prod A B → (C : Term) × (D : Term) × (u ≡ Prod C D)
product_under t u A B AtMost.same e = (A, B, e)
product_under t u A B (AtMost.sort p) e = absurd (cc)
product_under t u A B (AtMost.product {A = C} {B' = D} a) e = (C, D, refl)

sort_above : {E : Env} (t u : Term) (s : Sort) → AtMost E t u → u ≡ SortT s → (r : Sort) × (t ≡ SortT r)
sort_above t u s AtMost.same e = (s, e)
sort_above t u s (AtMost.sort {s = r} p) e = (r, refl)
sort_above t u s (AtMost.product a) e = absurd (cc)

sort_under : {E : Env} (t u : Term) (s : Sort) → AtMost E t u → t ≡ SortT s → (r : Sort) × (u ≡ SortT r)
sort_under t u s AtMost.same e = (s, e)
sort_under t u s (AtMost.sort {s' = r} p) e = (r, refl)
sort_under t u s (AtMost.product a) e = absurd (cc)

-- an applied family stays one
record FamilyStays (f : FamilyId) (T : Term) : Type 0 where
  is : T ≡ apply (Ind f) (args T)
  stays : Stays (head T)

family_stays : {E : Env} (V : Values) (f : FamilyId) (xs : List Term) (T : Term) → Steps E (substitute (expanding V) (apply (Ind f) xs)) T → FamilyStays f T
family_stays V f xs T p =
    let t = substitute (expanding V) (apply (Ind f) xs) in
    let r = from_spine t T (applied_stays (expanding V) xs family) p in
    let e : head T ≡ Ind f = r.at_head ∙ head_put (expanding V) xs family in
    record { is = spine_is T (Ind f) (args T) e refl; stays = subst Stays (sym e) tt }

pub below_product : (E : Env) → IsAccepted E → (V : Values) (X A B : Term) → Below E V X (Prod A B) → IsProduct E V X
below_product E h V X A B b =
    let d = settled E h in
    let l = below_there d V X (Prod A B) b in
    let r = from_product (substitute (expanding V) A) (substitute (expanding (None ∷ V)) B) l.upper l.right in
    let (C, D, e) = product_above l.lower l.upper r.domain r.codomain l.at_most r.is in
    to_product d V X l.lower C D e l.left

pub above_product : (E : Env) → IsAccepted E → (V : Values) (X A B : Term) → Below E V (Prod A B) X → IsProduct E V X
above_product E h V X A B b =
    let d = settled E h in
    let l = below_there d V (Prod A B) X b in
    let r = from_product (substitute (expanding V) A) (substitute (expanding (None ∷ V)) B) l.lower l.left in
    let (C, D, e) = product_under l.lower l.upper r.domain r.codomain l.at_most r.is in
    to_product d V X l.upper C D e l.right

pub below_sort : (E : Env) → IsAccepted E → (V : Values) (X : Term) (s : Sort) → Below E V X (SortT s) → IsSort E V X
below_sort E h V X s b =
    let d = settled E h in
    let l = below_there d V X (SortT s) b in
    let r = from_sort s l.upper l.right in
    let (u, e) = sort_above l.lower l.upper r.sort' l.at_most r.is in
    to_sort d V X l.lower u e l.left

pub above_sort : (E : Env) → IsAccepted E → (V : Values) (X : Term) (s : Sort) → Below E V (SortT s) X → IsSort E V X
above_sort E h V X s b =
    let d = settled E h in
    let l = below_there d V (SortT s) X b in
    let r = from_sort s l.lower l.left in
    let (u, e) = sort_under l.lower l.upper r.sort' l.at_most r.is in
    to_sort d V X l.upper u e l.right

pub below_family : (E : Env) → IsAccepted E → (V : Values) (X : Term) (f : FamilyId) (ys : List Term) → Below E V X (apply (Ind f) ys) → IsFamily E V f X
below_family E h V X f ys b =
    let d = settled E h in
    let l = below_there d V X (apply (Ind f) ys) b in
    let r = family_stays V f ys l.upper l.right in
    to_family d V X l.lower f (args l.upper) (at_most_stays r.stays l.at_most ∙ r.is) l.left

pub above_family : (E : Env) → IsAccepted E → (V : Values) (X : Term) (f : FamilyId) (xs : List Term) → Below E V (apply (Ind f) xs) X → IsFamily E V f X
above_family E h V X f xs b =
    let d = settled E h in
    let l = below_there d V (apply (Ind f) xs) X b in
    let r = family_stays V f xs l.lower l.left in
    to_family d V X l.upper f (args l.lower) (sym (stays_at_most r.stays l.at_most) ∙ r.is) l.right

-- no two of the three are below one another

pub product_not_sort : (E : Env) → IsAccepted E → (V : Values) (A B : Term) (s : Sort) → Below E V (Prod A B) (SortT s) → ⊥
product_not_sort E h V A B s b = product_is_no_sort (settled E h) V A B s b

pub sort_not_product : (E : Env) → IsAccepted E → (V : Values) (A B : Term) (s : Sort) → Below E V (SortT s) (Prod A B) → ⊥
sort_not_product E h V A B s b = sort_is_no_product (settled E h) V A B s b

pub product_not_family : (E : Env) → IsAccepted E → (V : Values) (A B : Term) (f : FamilyId) (xs : List Term) → Below E V (Prod A B) (apply (Ind f) xs) → ⊥
product_not_family E h V A B f xs b = product_is_no_family (settled E h) V A B f xs b

pub family_not_product : (E : Env) → IsAccepted E → (V : Values) (A B : Term) (f : FamilyId) (xs : List Term) → Below E V (apply (Ind f) xs) (Prod A B) → ⊥
family_not_product E h V A B f xs b = family_is_no_product (settled E h) V A B f xs b

pub sort_not_family : (E : Env) → IsAccepted E → (V : Values) (s : Sort) (f : FamilyId) (xs : List Term) → Below E V (SortT s) (apply (Ind f) xs) → ⊥
sort_not_family E h V s f xs b = sort_is_no_family (settled E h) V s f xs b

pub family_not_sort : (E : Env) → IsAccepted E → (V : Values) (s : Sort) (f : FamilyId) (xs : List Term) → Below E V (apply (Ind f) xs) (SortT s) → ⊥
family_not_sort E h V s f xs b = family_is_no_sort (settled E h) V s f xs b
