-- Each term that has a type has a principal one: by the rule of the term's former, from principal types of its parts.
use Rattle.std.proofs.Common.{List, [], ◌∷◌, ◌++◌, length, refl, sym, ap, ◌∙◌}
use Rattle.universe_levels.specs.declared.sort.Sort.{Sort}
use Rattle.universe_levels.specs.Sorts.{product_sort}
use Rattle.pc_terms.specs.declared.leaf.FamilyId.{FamilyId}
use Rattle.pc_terms.specs.Syntax.{Term, SortT, Prod, LetIn, Ind, put, substitute, apply}
use Rattle.calculus_rules.specs.declared.entry.Entry.TheVariants.{Assumed}
use Rattle.calculus_rules.specs.Environment.{Env, SortEntails}
use Rattle.calculus_rules.specs.Context.{Context, values}
use Rattle.calculus_rules.specs.Conversion.{same, back, Below, equal, product}
use Rattle.calculus_rules.specs.Instances.{family_type, constructor_type, predicate_at}
use Rattle.calculus_rules.specs.Typing.{bare, Types, rel, sort, prod, lambda, let_in, app, const, ind, construct, case, fix, conv}
use Rattle.calculus_rules.specs.Accepted.{IsAccepted}
use Rattle.calculus_rules.proofs.Spines.{one_item}
use Rattle.calculus_rules.proofs.Listing.{same_list}
use Rattle.typing_laws.proofs.Generating.{of_rel, of_sort, of_prod, of_lambda, of_let_in, of_app, of_const, of_ind, of_case, of_fix}
use Rattle.typing_laws.proofs.MiddleEntries.{substitution_of_below}
use Rattle.typing_laws.proofs.Traversal.{below_at}
use Rattle.equality_laws.specs.Laws.{EqualEach, no_terms, a_term}
use Rattle.type_laws.specs.Contexts.{IsContext, assume, define}
use Rattle.type_laws.proofs.Apart.{reduces_equal, ProductsBelow, products_below, sorts_below, families_below, below_sort, below_product, below_family}
use Rattle.type_laws.proofs.EnvironmentSorts.{known_is_kept}
use Rattle.type_laws.proofs.EqualLists.{each_equal_back, each_equal_chain, each_equal_append, each_equal_parts}
use Rattle.type_laws.proofs.MatchesKeep.{above_declared}
use Rattle.type_laws.proofs.RootsKeep.{fits_assumed, one_type}
use Rattle.type_laws.proofs.Spines.{put_equal}
use Rattle.type_laws.proofs.StepsKeep.{reduces_keeps}
use Rattle.type_laws.proofs.Validity.{known_once, types_have_sorts}
use Rattle.type_laws.proofs.CommonTypes.{products_entail, lets_below}
use Rattle.metatheory.specs.PrincipalTypes.{IsPrincipal, TermsHavePrincipalTypes}

abbrev Principal : Env → Context → Term → Type 0
Principal E c t = (P : Term) × IsPrincipal E c t P

-- of a term that has a sort, the least one; of a function, the least product

record LeastSort (E : Env) (c : Context) (A : Term) : Type 0 where
  one : Sort
  typed : Types bare E c A (SortT one)
  least : (s : Sort) → Types bare E c A (SortT s) → SortEntails E one s

least_sort : (E : Env) → IsAccepted E → (c : Context) (A : Term) (s : Sort) → IsContext E c → Types bare E c A (SortT s) → Principal E c A → LeastSort E c A
least_sort E h c A s k d (P, p) =
    let (w, steps) = below_sort E h (values c) P s (p.below (SortT s) d) in
    let (u, q) = types_have_sorts E h c A P k p.typed in
    let e = reduces_equal E (values c) P (SortT w) steps in
    record {
      one = w;
      typed = conv p.typed (equal e) (reduces_keeps E h c P (SortT w) (SortT u) k steps q);
      least = λ s d. sorts_below E h (values c) w s (Below.chain (equal (back e)) (p.below (SortT s) d));
    }

record LeastProduct (E : Env) (c : Context) (f : Term) : Type 0 where
  domain : Term
  codomain : Term
  sort : Sort
  domain_sorted : Types bare E c domain (SortT sort)
  typed : Types bare E c f (Prod domain codomain)
  least : (A B : Term) → Types bare E c f (Prod A B) → ProductsBelow E (values c) domain codomain A B

least_product : (E : Env) → IsAccepted E → (c : Context) (f A B : Term) → IsContext E c → Types bare E c f (Prod A B) → Principal E c f → LeastProduct E c f
least_product E h c f A B k d (P, p) =
    let (D, C, steps) = below_product E h (values c) P A B (p.below (Prod A B) d) in
    let (u, q) = types_have_sorts E h c f P k p.typed in
    let e = reduces_equal E (values c) P (Prod D C) steps in
    let w = reduces_keeps E h c P (Prod D C) (SortT u) k steps q in
    let o = of_prod w in
    record {
      domain = D;
      codomain = C;
      sort = o.domain_sort;
      domain_sorted = o.domain;
      typed = conv p.typed (equal e) w;
      least = λ A B d. products_below E h (values c) D C A B (Below.chain (equal (back e)) (p.below (Prod A B) d));
    }

-- two types of a term that are a family's have equal parameters and indices, since its principal type is below both
arguments_equal : (E : Env) → IsAccepted E → (c : Context) (f : FamilyId) (t : Term) (xs ys : List Term) → Principal E c t →
    Types bare E c t (apply (Ind f) xs) → Types bare E c t (apply (Ind f) ys) → EqualEach E (values c) xs ys
arguments_equal E h c f t xs ys (P, p) d d' =
    let l = p.below (apply (Ind f) xs) d in
    let (zs, steps) = below_family E h (values c) P f xs l in
    let e = reduces_equal E (values c) P (apply (Ind f) zs) steps in
    each_equal_chain (each_equal_back (families_below E h (values c) f f zs xs (Below.chain (equal (back e)) l)).arguments)
    (families_below E h (values c) f f zs ys (Below.chain (equal (back e)) (p.below (apply (Ind f) ys) d'))).arguments

principal : {E : Env} → IsAccepted E → {c : Context} {t T : Term} → Types bare E c t T → IsContext E c → Principal E c t
principal {E} h {c} (rel {T = T} e) k = (T, record { typed = rel e; below = λ U d. let o = of_rel d in below_at (one_item (sym o.entry ∙ e)) refl o.below })
principal {E} h (sort {s = s} w) k = (_, record { typed = sort w; below = λ U d. (of_sort d).below })
principal {E} h {c} (prod {A = A} {B = B} {s = s} {s' = w} p q) k =
    let inner = assume k (s, p) in
    let x = least_sort E h c A s k p (principal h p k) in
    let y = least_sort E h (Assumed A ∷ c) B w inner q (principal h q inner) in (
      SortT (product_sort x.one y.one),
      record {
        typed = prod x.typed y.typed;
        below =
            λ U d.
            let o = of_prod d in
            Below.chain (Below.sort (products_entail E x.one y.one o.domain_sort o.codomain_sort (x.least o.domain_sort o.domain) (y.least o.codomain_sort o.codomain))) o.below;
      },
    )
principal {E} h {c} (lambda {A = A} {s = s} p q) k =
    let (P, r) = principal h q (assume k (s, p)) in
    (Prod A P, record { typed = lambda p r.typed; below = λ U d. let o = of_lambda d in Below.chain (product same (r.below o.codomain o.body)) o.below })
principal {E} h {c} (let_in {b = b} {B = B} {s = s} p q r) k =
    let (P, w) = principal h r (define k (s, p) q) in
    (LetIn b B P, record { typed = let_in p q w.typed; below = λ U d. let o = of_let_in d in Below.chain (lets_below E h c b B P o.codomain q (w.below o.codomain o.body)) o.below })
principal {E} h {c} (app {f = f} {a = a} {A = A} {B = B} p q) k =
    let z = least_product E h c f A B k p (principal h p k) in
    let argument : Types bare E c a z.domain = conv q (equal (back (z.least A B p).domains)) z.domain_sorted in (
      substitute (put a) z.codomain,
      record {
        typed = app z.typed argument;
        below =
            λ U d.
            let o = of_app d in
            Below.chain
            (substitution_of_below E h [] c (Assumed z.domain) a z.codomain o.codomain (fits_assumed argument) (z.least o.domain o.codomain o.function).codomains) o.below;
      },
    )
principal {E} h (const {k = x} {T = T} {b = b} q) k =
    (T, record { typed = const q; below = λ U d. let o = of_const d in below_at (one_type E h x o.kept_type T o.body b o.kept q) refl o.below })
principal {E} h (ind {f = f} {F = F} q) k =
    (family_type F, record { typed = ind q; below = λ U d. let o = of_ind d in below_at (ap family_type (known_once E h f F o.family (known_is_kept E h f F q) o.known)) refl o.below })
principal {E} h {c} (construct {f = f} {n = n} {F = F} {C = C} q e) k =
    (constructor_type f F C, record { typed = construct q e; below = λ U d. above_declared E h c f F n C U q e d })
principal {E} h {c} (case {f = f} {ret = ret} {t = t} ps is q e l p es r may s bs) k = (
  predicate_at ret is t,
  record {
    typed = case ps is q e l p es r may s bs;
    below =
        λ U d.
        let o = of_case d in
        let parts = each_equal_parts ps is o.parameters o.indices (ap length (same_list ps o.parameters o.are))
        (arguments_equal E h c f t (ps ++ is) (o.parameters ++ o.indices) (principal h s k) s o.scrutinee) in
        let both = each_equal_append parts.inner (a_term {t = t} same no_terms) in
        Below.chain (equal (put_equal E h c (is ++ (t ∷ [])) (o.indices ++ (t ∷ [])) ret both)) o.below;
  },
)
principal {E} h (fix {T = T} e at p b ask) k =
    (T, record { typed = fix e at p b ask; below = λ U d. let o = of_fix d in below_at (ap (λ q. q.1) (one_item (sym o.at ∙ at))) refl o.below })
principal h (conv p b q) k = principal h p k

pub terms_have_principal_types : TermsHavePrincipalTypes
terms_have_principal_types E h c k t T d = principal h d k
