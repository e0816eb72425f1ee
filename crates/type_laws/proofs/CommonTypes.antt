-- Two types of a term have one below both (principality): by the rule of the term's former, from types of its parts that are below both of theirs.
use Rattle.std.proofs.Common.{ℕ, ◌≡◌, max, List, [], ◌∷◌, ◌++◌, length, refl, sym, ap, ◌∙◌, arith}
use Rattle.universe_levels.specs.declared.level.LevelExpr.{LevelExpr}
use Rattle.universe_levels.specs.declared.sort.Sort.{Sort}
use Rattle.universe_levels.specs.declared.sort.Sort.TheVariants.{Prop, Of}
use Rattle.universe_levels.specs.Maximum.{maximum_of, with_parts}
use Rattle.universe_levels.specs.Sorts.{product_sort}
use Rattle.universe_levels.specs.Valuation.{value_of}
use Rattle.universe_levels.proofs.MaximumLemmas.{value_of-with_parts, with_parts-append}
use Rattle.pc_terms.specs.declared.leaf.FamilyId.{FamilyId}
use Rattle.pc_terms.specs.Syntax.{Term, SortT, Prod, LetIn, App, Ind, put, substitute, apply}
use Rattle.calculus_rules.specs.declared.entry.Entry.TheVariants.{Assumed, Defined}
use Rattle.calculus_rules.specs.Environment.{Env, SortEntails}
use Rattle.calculus_rules.specs.Context.{Context, values}
use Rattle.calculus_rules.specs.Conversion.{same, step, back, Below, equal, product}
use Rattle.calculus_rules.specs.Step.{zeta}
use Rattle.calculus_rules.specs.Instances.{family_type, predicate_at}
use Rattle.calculus_rules.specs.Typing.{bare, Types, rel, sort, prod, lambda, let_in, app, const, ind, construct, case, fix, conv}
use Rattle.calculus_rules.specs.Accepted.{IsAccepted}
use Rattle.calculus_rules.proofs.Spines.{one_item}
use Rattle.calculus_rules.proofs.Listing.{same_list}
use Rattle.typing_laws.proofs.Generating.{of_rel, of_sort, of_prod, of_lambda, of_let_in, of_app, of_const, of_ind, of_case, of_fix}
use Rattle.typing_laws.proofs.MiddleEntries.{substitution_of_below}
use Rattle.typing_laws.proofs.Traversal.{below_at}
use Rattle.type_laws.specs.Contexts.{IsContext, assume, define}
use Rattle.type_laws.specs.Laws.{TypesHaveACommonOne}
use Rattle.equality_laws.specs.Laws.{EqualEach, no_terms, a_term}
use Rattle.type_laws.proofs.Apart.{reduces_equal, ProductsBelow, products_below, sorts_below, families_below, below_sort, below_product, below_family}
use Rattle.type_laws.proofs.EnvironmentSorts.{known_is_kept}
use Rattle.type_laws.proofs.EqualLists.{each_equal_back, each_equal_chain, each_equal_append, each_equal_parts}
use Rattle.type_laws.proofs.MatchesKeep.{above_declared}
use Rattle.type_laws.proofs.RootsKeep.{fits_assumed, fits_defined, one_type}
use Rattle.type_laws.proofs.Spines.{put_equal}
use Rattle.type_laws.proofs.StepsKeep.{reduces_keeps}
use Rattle.type_laws.proofs.Validity.{known_once, types_have_sorts}

-- a type of the term that is below both
abbrev Common : Env → Context → Term → Term → Term → Type 0
Common E c t T U = (P : Term) × Types bare E c t P × Below E (values c) P T × Below E (values c) P U

-- the sort of a product rises with the sorts of domain and codomain

value_of_both : (v : ℕ → ℕ) (u w : List LevelExpr) → value_of v (maximum_of (u ++ w)) ≡ max (value_of v u) (value_of v w)
value_of_both v u w =
    ap (value_of v) (with_parts-append [] u w) ∙ value_of-with_parts v (with_parts [] u) w ∙ ap (λ n. max n (value_of v w)) (value_of-with_parts v [] u ∙ max_zero (value_of v u))
  where
    max_zero : (n : ℕ) → max 0 n ≡ n
    max_zero n = omega arith

pub products_entail : (E : Env) (s w s' w' : Sort) → SortEntails E s s' → SortEntails E w w' → SortEntails E (product_sort s w) (product_sort s' w')
products_entail E s Prop s' w' p q = tt
products_entail E s (Of x) s' Prop p q = absurd q
products_entail E Prop (Of x) Prop (Of x') p q = q
products_entail E Prop (Of x) (Of u') (Of x') p q = λ v h. omega (arith, q v h, value_of_both v u' x')
products_entail E (Of u) (Of x) Prop (Of x') p q = absurd p
products_entail E (Of u) (Of x) (Of u') (Of x') p q = λ v h. omega (arith, p v h, q v h, value_of_both v u x, value_of_both v u' x')

-- what is below two sorts, two products or two types of a family reduces to one of its kind

record CommonSort (E : Env) (c : Context) (A : Term) (s s' : Sort) : Type 0 where
  one : Sort
  typed : Types bare E c A (SortT one)
  left : SortEntails E one s
  right : SortEntails E one s'

common_sort : (E : Env) → IsAccepted E → (c : Context) (A : Term) (s s' : Sort) → IsContext E c → Common E c A (SortT s) (SortT s') → CommonSort E c A s s'
common_sort E h c A s s' k (P, p, l, r) =
    let (w, steps) = below_sort E h (values c) P s l in
    let (u, q) = types_have_sorts E h c A P k p in
    let e = reduces_equal E (values c) P (SortT w) steps in
    record {
      one = w;
      typed = conv p (equal e) (reduces_keeps E h c P (SortT w) (SortT u) k steps q);
      left = sorts_below E h (values c) w s (Below.chain (equal (back e)) l);
      right = sorts_below E h (values c) w s' (Below.chain (equal (back e)) r);
    }

record CommonProduct (E : Env) (c : Context) (f A B A' B' : Term) : Type 0 where
  domain : Term
  codomain : Term
  sort : Sort
  domain_sorted : Types bare E c domain (SortT sort)
  typed : Types bare E c f (Prod domain codomain)
  left : ProductsBelow E (values c) domain codomain A B
  right : ProductsBelow E (values c) domain codomain A' B'

common_product : (E : Env) → IsAccepted E → (c : Context) (f A B A' B' : Term) → IsContext E c → Common E c f (Prod A B) (Prod A' B') → CommonProduct E c f A B A' B'
common_product E h c f A B A' B' k (P, p, l, r) =
    let (D, C, steps) = below_product E h (values c) P A B l in
    let (u, q) = types_have_sorts E h c f P k p in
    let e = reduces_equal E (values c) P (Prod D C) steps in
    let w = reduces_keeps E h c P (Prod D C) (SortT u) k steps q in
    let o = of_prod w in
    record {
      domain = D;
      codomain = C;
      sort = o.domain_sort;
      domain_sorted = o.domain;
      typed = conv p (equal e) w;
      left = products_below E h (values c) D C A B (Below.chain (equal (back e)) l);
      right = products_below E h (values c) D C A' B' (Below.chain (equal (back e)) r);
    }

common_family : (E : Env) → IsAccepted E → (c : Context) (f : FamilyId) (t : Term) (xs ys : List Term) → Common E c t (apply (Ind f) xs) (apply (Ind f) ys) → EqualEach E (values c) xs ys
common_family E h c f t xs ys (P, p, l, r) =
    let (zs, steps) = below_family E h (values c) P f xs l in
    let e = reduces_equal E (values c) P (apply (Ind f) zs) steps in
    each_equal_chain (each_equal_back (families_below E h (values c) f f zs xs (Below.chain (equal (back e)) l)).arguments)
    (families_below E h (values c) f f zs ys (Below.chain (equal (back e)) r)).arguments

-- lets of the same value whose bodies are below, since each is equal to its body with the value put in
pub lets_below : (E : Env) → IsAccepted E → (c : Context) (b B T U : Term) → Types bare E c b B → Below E (values (Defined b B ∷ c)) T U → Below E (values c) (LetIn b B T) (LetIn b B U)
lets_below E h c b B T U p q =
    Below.chain (equal (step zeta)) (Below.chain (substitution_of_below E h [] c (Defined b B) b T U (fits_defined p) q) (equal (back (step zeta))))

-- an application: the function's common type is a product, whose domain the argument has
common_application : (E : Env) → IsAccepted E → (c : Context) (f a A B A' B' : Term) → CommonProduct E c f A B A' B' → Types bare E c a A →
    (C : Term) × Types bare E c (App f a) (substitute (put a) C) × Below E (values c) (substitute (put a) C) (substitute (put a) B) × Below E (values c) (substitute (put a) C) (substitute (put a) B')
common_application E h c f a A B A' B' z q =
    let argument : Types bare E c a z.domain = conv q (equal (back z.left.domains)) z.domain_sorted in (
      z.codomain,
      app z.typed argument,
      substitution_of_below E h [] c (Assumed z.domain) a z.codomain B (fits_assumed argument) z.left.codomains,
      substitution_of_below E h [] c (Assumed z.domain) a z.codomain B' (fits_assumed argument) z.right.codomains,
    )

common : {E : Env} → IsAccepted E → {c : Context} {t T U : Term} → Types bare E c t T → IsContext E c → Types bare E c t U → Common E c t T U
common {E} h {c} {U = U} (rel {T = T} e) k d = let o = of_rel d in (T, rel e, equal same, below_at (one_item (sym o.entry ∙ e)) refl o.below)
common {E} h (sort {s = s} w) k d = let o = of_sort d in (_, sort w, equal same, o.below)
common {E} h {c} (prod {A = A} {B = B} {s = s} {s' = w} p q) k d =
    let o = of_prod d in
    let x = common_sort E h c A s o.domain_sort k (common h p k o.domain) in
    let inner = assume k (s, p) in
    let y = common_sort E h (Assumed A ∷ c) B w o.codomain_sort inner (common h q inner o.codomain) in (
      SortT (product_sort x.one y.one),
      prod x.typed y.typed,
      Below.sort (products_entail E x.one y.one s w x.left y.left),
      Below.chain (Below.sort (products_entail E x.one y.one o.domain_sort o.codomain_sort x.right y.right)) o.below,
    )
common {E} h {c} (lambda {A = A} {s = s} p q) k d =
    let o = of_lambda d in
    let (P, b, l, r) = common h q (assume k (s, p)) o.body in
    (Prod A P, lambda p b, product same l, Below.chain (product same r) o.below)
common {E} h {c} (let_in {b = b} {B = B} {T = T} {s = s} p q r) k d =
    let o = of_let_in d in
    let (P, body, left, right) = common h r (define k (s, p) q) o.body in
    (LetIn b B P, let_in p q body, lets_below E h c b B P T q left, Below.chain (lets_below E h c b B P o.codomain q right) o.below)
common {E} h {c} (app {f = f} {a = a} {A = A} {B = B} p q) k d =
    let o = of_app d in
    let z = common_product E h c f A B o.domain o.codomain k (common h p k o.function) in
    let (C, typed, left, right) = common_application E h c f a A B o.domain o.codomain z q in
    (substitute (put a) C, typed, left, Below.chain right o.below)
common {E} h (const {k = x} {T = T} {b = b} q) k d =
    let o = of_const d in (T, const q, equal same, below_at (one_type E h x o.kept_type T o.body b o.kept q) refl o.below)
common {E} h (ind {f = f} {F = F} q) k d =
    let o = of_ind d in
    (family_type F, ind q, equal same, below_at (ap family_type (known_once E h f F o.family (known_is_kept E h f F q) o.known)) refl o.below)
common {E} h {c} {U = U} (construct {f = f} {n = n} {F = F} {C = C} q e) k d = (_, construct q e, equal same, above_declared E h c f F n C U q e d)
common {E} h {c} (case {f = f} {ret = ret} {t = t} ps is q e l p es r may s bs) k d =
    let o = of_case d in
    let equals = common_family E h c f t (ps ++ is) (o.parameters ++ o.indices) (common h s k o.scrutinee) in
    let parts = each_equal_parts ps is o.parameters o.indices (ap length (same_list ps o.parameters o.are)) equals in
    let both = each_equal_append parts.inner (a_term {t = t} same no_terms) in (
      predicate_at ret is t,
      case ps is q e l p es r may s bs,
      equal same,
      Below.chain (equal (put_equal E h c (is ++ (t ∷ [])) (o.indices ++ (t ∷ [])) ret both)) o.below,
    )
common {E} h (fix {T = T} e at p b ask) k d =
    let o = of_fix d in (T, fix e at p b ask, equal same, below_at (ap (λ q. q.1) (one_item (sym o.at ∙ at))) refl o.below)
common h (conv p b q) k d = let (P, typed, left, right) = common h p k d in (P, typed, Below.chain left b, right)

pub types_have_a_common_one : TypesHaveACommonOne
types_have_a_common_one E h c t T U k d e = common h d k e
