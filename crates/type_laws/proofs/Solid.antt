-- Constructors of families that aren't in Prop aren't erasable, and where the function of an application is erasable, the application's value is.
use Rattle.std.proofs.Common.{◌≡◌, ◌≢◌, ℕ, List, [], ◌∷◌, ◌++◌, None, refl, sym, ap, ◌∙◌, subst, slice_get}
use Rattle.universe_levels.specs.declared.sort.Sort.{Sort}
use Rattle.universe_levels.specs.declared.sort.Sort.TheVariants.{Prop, Of}
use Rattle.universe_levels.specs.Sorts.{product_sort}
use Rattle.pc_terms.specs.declared.leaf.FamilyId.{FamilyId}
use Rattle.pc_terms.specs.Syntax.{Term, Terms, SortT, Prod, App, Ind, Construct, Case, put, substitute, apply, terms_of, head}
use Rattle.calculus_rules.specs.declared.entry.Entry.TheVariants.{Assumed}
use Rattle.calculus_rules.specs.Environment.{Env, SortEntails, FamilyDecl, KeepsFamily}
use Rattle.calculus_rules.specs.Context.{Values, extend}
use Rattle.calculus_rules.specs.Conversion.{Equal, Below, equal, back, chain, same}
use Rattle.calculus_rules.specs.Instances.{products, entries_at, predicate_entries}
use Rattle.calculus_rules.specs.Step.{is_constructor}
use Rattle.calculus_rules.specs.Erasable.{Erasable, arity, proof, prop_match, prop_constructor}
use Rattle.calculus_rules.specs.Evaluation.{Evaluates}
use Rattle.calculus_rules.specs.Typing.{bare, Types, app, case, construct, conv}
use Rattle.calculus_rules.specs.Accepted.{IsAccepted}
use Rattle.calculus_rules.specs.Lawful.{KeepsTypes}
use Rattle.calculus_rules.proofs.Congruence.{equal_products}
use Rattle.calculus_rules.proofs.OneEach.{one_of_each}
use Rattle.calculus_rules.proofs.Spines.{head-apply}
use Rattle.typing_laws.specs.TypedParts.{OfCase}
use Rattle.calculus_rules.proofs.Listing.{same_list}
use Rattle.typing_laws.proofs.Generating.{of_app, of_case, of_prod}
use Rattle.typing_laws.proofs.MiddleEntries.{substitution, substitution_of_equality}
use Rattle.typing_laws.proofs.Traversal.{equal_at, types_at}
use Rattle.type_laws.specs.Contexts.{IsContext}
use Rattle.type_laws.specs.Laws.{FamiliesStay}
use Rattle.type_laws.proofs.Apart.{reduces_equal, products_below, sorts_below, below_product, above_product, below_sort, above_family, product_not_sort, family_not_product, family_not_sort}
use Rattle.type_laws.proofs.EnvironmentSorts.{constructor_in_prop}
use Rattle.type_laws.proofs.RootsKeep.{fits_assumed}
use Rattle.type_laws.proofs.Spines.{arguments_put}
use Rattle.type_laws.proofs.Validity.{scrutinee_fits, types_have_sorts}
use Rattle.type_laws.proofs.MatchesKeep.{BuiltTypes, built_types}
use Rattle.type_laws.proofs.StepsKeep.{reduces_keeps}
use Rattle.type_laws.proofs.CommonTypes.{types_have_a_common_one}
use Rattle.type_laws.proofs.MatchTelescopes.{substitute-products}
use Rattle.type_laws.proofs.Results.{family_rest}

-- sorts and Prop

pub not_in_prop : (E : Env) (s : Sort) → s ≢ Prop → SortEntails E s Prop → ⊥
not_in_prop E Prop n e = n refl
not_in_prop E (Of u) n e = e

-- a product in Prop has its codomain there
codomain_in_prop : (E : Env) (s s' : Sort) → SortEntails E (product_sort s s') Prop → s' ≡ Prop
codomain_in_prop E s Prop e = refl
codomain_in_prop E Prop (Of w) e = absurd e
codomain_in_prop E (Of u) (Of w) e = absurd e

-- families

pub family_not_arity : (E : Env) → IsAccepted E → (f : FamilyId) (xs As : List Term) (s : Sort) → Below E [] (apply (Ind f) xs) (products As (SortT s)) → ⊥
family_not_arity E h f xs [] s b = family_not_sort E h [] s f xs b
family_not_arity E h f xs (A ∷ As) s b = family_not_product E h [] A (products As (SortT s)) f xs b

-- a family that has sort Prop is of sort Prop
pub family_in_prop : (E : Env) → IsAccepted E → (f : FamilyId) (F : FamilyDecl) (xs : List Term) → KeepsFamily E f F → F.sort ≢ Prop → Types bare E [] (apply (Ind f) xs) (SortT Prop) → ⊥
family_in_prop E h f F xs k n d =
    let (G, Bs, k', b) = family_rest E h f xs (SortT Prop) d in
    at Bs (subst (λ s. Below E [] (products Bs (SortT s)) (SortT Prop)) (ap (λ F. F.sort) ((one_of_each E h).families f G F k' k)) b)
  where
    at : (Bs : List Term) → Below E [] (products Bs (SortT F.sort)) (SortT Prop) → ⊥
    at [] b = not_in_prop E F.sort n (sorts_below E h [] F.sort Prop b)
    at (B ∷ Bs) b = product_not_sort E h [] B (products Bs (SortT F.sort)) Prop b

construct_family : Term → FamilyId → FamilyId
construct_family (Construct f k) g = f
construct_family t g = g

pub families_stay : FamiliesStay
unfolding construct_family
families_stay E h f F c v qs xs T k n (is_constructor {F = G} {C = C} k' i lq lx e) d er = go er e
  where
    one : G ≡ F
    one = (one_of_each E h).families f G F k' k

    built : (U : Term) → Types bare E [] v U → BuiltTypes E [] f F C qs xs U
    built U p = built_types E h [] f F c C v qs xs U IsContext.empty k (sym (ap (λ F. slice_get F.constructors c) one) ∙ i) (is_constructor k' i lq lx e) p

    go : {t : Term} → Erasable E [] t → t ≡ apply (Construct f c) (qs ++ xs) → ⊥
    go (arity {T = U} As s p q) et =
        let b = built U (types_at (et ∙ sym e) refl p) in family_not_arity E h f (qs ++ b.results) As s (Below.chain b.below (equal q))
    go (proof {T = U} p q) et =
        let b = built U (types_at (et ∙ sym e) refl p) in
        let (ys, r) = above_family E h [] U f (qs ++ b.results) b.below in
        family_in_prop E h f F ys k n (reduces_keeps E h [] U (apply (Ind f) ys) (SortT Prop) IsContext.empty r q)
    go (prop_match ps m l l' p) et = let u = ap head et ∙ head-apply (Construct f c) (qs ++ xs) in cc
    go (prop_constructor {f = g} {F = D} {k = j} m p at) et =
        let u : Construct g j ≡ Construct f c = ap head et ∙ head-apply (Construct f c) (qs ++ xs) in
        let w : g ≡ f = ap (λ t. construct_family t f) u in
        n (sym (ap (λ F. F.sort) ((one_of_each E h).families f D F (subst (λ g. KeepsFamily E g D) w m) k)) ∙ p)

-- evidence by a type

pub data ByType (E : Env) (t : Term) : Type 0 where
  by_arity : {T : Term} (As : List Term) (s : Sort) → Types bare E [] t T → Equal E [] T (products As (SortT s)) → ByType E t
  by_proof : {T : Term} → Types bare E [] t T → Types bare E [] T (SortT Prop) → ByType E t

-- a match whose predicate has sort Prop has a type there
match_in_prop : (E : Env) → IsAccepted E → (f : FamilyId) (F : FamilyDecl) (n : ℕ) (ret t : Term) (bs : Terms) (ps : List Term) (T : Term) → KeepsFamily E f F →
    Types bare E (extend [] (predicate_entries f F ps)) ret (SortT Prop) → OfCase bare E [] f (terms_of ps) n ret t bs T → ByType E (Case f (terms_of ps) n ret t bs)
match_in_prop E h f F n ret t bs ps T k p r =
    by_proof
    (types_at (ap (λ xs. Case f xs n ret t bs) (sym r.are)) refl
    (case r.parameters r.indices r.kept r.names r.count r.fit r.entries r.predicate r.may r.scrutinee r.branches))
    (arguments_put E h [] (predicate_entries f r.family r.parameters) (r.indices ++ (t ∷ [])) ret (SortT Prop)
    (scrutinee_fits E h [] f r.family r.parameters r.indices t IsContext.empty r.kept r.count r.fit (types_have_sorts E h [] t _ IsContext.empty r.scrutinee) r.scrutinee)
    (subst (λ As. Types bare E (extend [] As) ret (SortT Prop))
    (λ i. predicate_entries f ((one_of_each E h).families f F r.family k r.kept i) (same_list ps r.parameters r.are i)) p))

pub by_type : (E : Env) → IsAccepted E → {t : Term} (T : Term) → Types bare E [] t T → Erasable E [] t → ByType E t
by_type E h T d (arity As s p q) = by_arity As s p q
by_type E h T d (proof p q) = by_proof p q
by_type E h T d (prop_match {f = f} {F = F} {bs = bs} {n = n} {ret = ret} {t = t} ps k l l' p) = match_in_prop E h f F n ret t bs ps T k p (of_case d)
by_type E h T d (prop_constructor {f = f} {F = F} {C = C} {k = n} k p i) = by_proof (construct k i) (constructor_in_prop E h [] f F n C k p i)

-- an erasable term's value, or contractum, that has its types is erasable
pub erasable_kept : (E : Env) → IsAccepted E → (t v T : Term) → Types bare E [] t T → KeepsTypes E t v → Erasable E [] t → Erasable E [] v
erasable_kept E h t v T d k e = go (by_type E h T d e)
  where
    go : ByType E t → Erasable E [] v
    go (by_arity {T = U} As s p q) = arity As s (k U p) q
    go (by_proof {T = U} p q) = proof (k U p) q

-- functions

-- a term that is below products ending in a sort is equal to such
below_arity : (E : Env) → IsAccepted E → (V : Values) (As : List Term) (s : Sort) (B : Term) → Below E V B (products As (SortT s)) →
    (Bs : List Term) × (u : Sort) × Equal E V B (products Bs (SortT u))
below_arity E h V [] s B b = let (u, r) = below_sort E h V B s b in ([], u, reduces_equal E V B (SortT u) r)
below_arity E h V (A ∷ As) s B b =
    let (X, Y, r) = below_product E h V B A (products As (SortT s)) b in
    let e = reduces_equal E V B (Prod X Y) r in
    let p = products_below E h V X Y A (products As (SortT s)) (Below.chain (equal (back e)) b) in
    let (Bs, u, q) = below_arity E h (None ∷ V) As s Y p.codomains in
    (X ∷ Bs, u, chain e (equal_products E V X X Y (products Bs (SortT u)) same q))

-- a product below one more type of an application's function, that is a type of it, and whose domain is one of the argument
pub record FunctionTypes (E : Env) (g a T : Term) : Type 0 where
  pub domain : Term
  pub codomain : Term
  pub sort : Sort
  pub sorted : Types bare E [] (Prod domain codomain) (SortT sort)
  pub function : Types bare E [] g (Prod domain codomain)
  pub argument : Types bare E [] a domain
  pub below : Below E [] (Prod domain codomain) T

pub function_types : (E : Env) → IsAccepted E → (g a T U : Term) → Types bare E [] (App g a) T → Types bare E [] g U → FunctionTypes E g a U
function_types E h g a T U d p =
    let r = of_app d in
    let (P, q, b, b') = types_have_a_common_one E h [] g U (Prod r.domain r.codomain) IsContext.empty p r.function in
    let (A, B, steps) = below_product E h [] P r.domain r.codomain b' in
    let e = reduces_equal E [] P (Prod A B) steps in
    let (u, sorted) = types_have_sorts E h [] g P IsContext.empty q in
    let w = reduces_keeps E h [] P (Prod A B) (SortT u) IsContext.empty steps sorted in
    let domains = (products_below E h [] A B r.domain r.codomain (Below.chain (equal (back e)) b')).domains in
    let o = of_prod w in
    record {
      domain = A;
      codomain = B;
      sort = u;
      sorted = w;
      function = conv {s = u} q (equal e) w;
      argument = conv {s = o.domain_sort} r.argument (equal (back domains)) o.domain;
      below = Below.chain (equal (back e)) b;
    }

-- a value g that is erasable: so is what has the types of its application
pub passes_arity : (E : Env) → IsAccepted E → (g a v U : Term) (As : List Term) (s : Sort) → FunctionTypes E g a U → Equal E [] U (products As (SortT s)) → KeepsTypes E (App g a) v →
    Erasable E [] v
passes_arity E h g a v U [] s r q k = absurd (product_not_sort E h [] r.domain r.codomain s (Below.chain r.below (equal q)))
passes_arity E h g a v U (A ∷ As) s r q k =
    let p = products_below E h [] r.domain r.codomain A (products As (SortT s)) (Below.chain r.below (equal q)) in
    let (Bs, u, e) = below_arity E h (None ∷ []) As s r.codomain p.codomains in
    arity (entries_at (put a) Bs) u (k (substitute (put a) r.codomain) (app r.function r.argument))
    (equal_at refl (substitute-products Bs (put a) (SortT u))
    (substitution_of_equality E h [] [] (Assumed r.domain) a r.codomain (products Bs (SortT u)) (fits_assumed r.argument) e))

pub passes_proof : (E : Env) → IsAccepted E → (g a v U : Term) → Types bare E [] g U → Types bare E [] U (SortT Prop) → FunctionTypes E g a U → KeepsTypes E (App g a) v → Erasable E [] v
passes_proof E h g a v U p q r k =
    let (A, B, steps) = above_product E h [] U r.domain r.codomain r.below in
    let w = reduces_keeps E h [] U (Prod A B) (SortT Prop) IsContext.empty steps q in
    let e = reduces_equal E [] U (Prod A B) steps in
    let o = of_prod w in
    let domains = (products_below E h [] r.domain r.codomain A B (Below.chain r.below (equal e))).domains in
    let argument = conv r.argument (equal domains) o.domain in
    let is_prop = codomain_in_prop E o.domain_sort o.codomain_sort (sorts_below E h [] (product_sort o.domain_sort o.codomain_sort) Prop o.below) in
    proof (k (substitute (put a) B) (app (conv p (equal e) w) argument))
    (substitution E h [] [] (Assumed A) a B (SortT Prop) (fits_assumed argument) (types_at refl (ap (λ s. SortT s) is_prop) o.codomain))

pub passes_on : (E : Env) → IsAccepted E → (f g a v T : Term) (n : ℕ) → Evaluates E f g n → Types bare E [] (App g a) T → KeepsTypes E (App g a) v → Erasable E [] g → Erasable E [] v
passes_on E h f g a v T n p d k e = let r = of_app d in go (by_type E h (Prod r.domain r.codomain) r.function e)
  where
    go : ByType E g → Erasable E [] v
    go (by_arity {T = U} As s p q) = passes_arity E h g a v U As s (function_types E h g a T U d p) q k
    go (by_proof {T = U} p q) = passes_proof E h g a v U p q (function_types E h g a T U d p) k
