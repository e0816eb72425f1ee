-- Each type of a term has a sort (validity).
use Rattle.std.proofs.Common.{◌≡◌, ℕ, zero, suc, ◌+◌, List, [], ◌∷◌, ◌++◌, map, Some, length, refl, sym, ap, ◌∙◌, subst, arith, length-append}
use mathlib.Core.Path.{fun_ext}
use Rattle.universe_levels.specs.Sorts.{super_sort, product_sort}
use Rattle.trees.proofs.Fusion.{substitute-rename}
use Rattle.trees.proofs.Put.{each_append, substitute_same}
use Rattle.pc_terms.specs.declared.leaf.FamilyId.{FamilyId}
use Rattle.pc_terms.specs.Syntax.{Term, Terms, Rel, SortT, Ind, Fix, first, put, put_all, substitute, shift, apply, variables, term_at}
use Rattle.calculus_rules.specs.declared.entry.Entry.{Entry}
use Rattle.calculus_rules.specs.declared.entry.Entry.TheVariants.{Assumed, Defined}
use Rattle.calculus_rules.specs.Environment.{Env, FamilyDecl, KeepsFamily, KnowsFamily}
use Rattle.calculus_rules.specs.Context.{Context, values, type_of, type_at}
use Rattle.calculus_rules.specs.Conversion.{step, Below, equal}
use Rattle.calculus_rules.specs.Step.{zeta}
use Rattle.calculus_rules.specs.Instances.{products, predicate_entries, family_type}
use Rattle.calculus_rules.specs.Typing.{bare, Types, rel, sort, prod, lambda, let_in, app, const, ind, construct, case, fix, conv, TypesAll, no_terms, term, Sorts, no_types, a_type}
use Rattle.calculus_rules.specs.Accepted.{IsAccepted}
use Rattle.calculus_rules.proofs.Spines.{one_item, substitute-apply}
use Rattle.calculus_rules.proofs.OneEach.{one_of_each}
use Rattle.typing_laws.specs.Substituting.{Fits}
use Rattle.typing_laws.proofs.AcceptedClosed.{accepted_closed}
use Rattle.typing_laws.proofs.Telescopes.{products_append}
use Rattle.typing_laws.proofs.Traversal.{types_at, substitute_types, types_length}
use Rattle.typing_laws.proofs.RenamingAndPutting.{PutsEntries, putting, puts_one, lifted_some, weaken_types}
use Rattle.typing_laws.proofs.PuttingAll.{puts_first, puts_none, types_entries}
use Rattle.typing_laws.proofs.Generating.{of_prod, of_ind}
use Rattle.type_laws.specs.Contexts.{HasSort, IsContext, assume, define}
use Rattle.type_laws.specs.Laws.{TypesHaveSorts}
use Rattle.type_laws.proofs.EnvironmentSorts.{kept_is_known, known_is_kept, constant_sorted, family_sorted, constructor_sorted, parameters_sorted, indices_sorted}
use Rattle.type_laws.proofs.TelescopeParts.{entries_append, all_append, all_parts}
use Rattle.type_laws.proofs.PutLists.{variables_put, lifted_put, each_same}
use Rattle.type_laws.proofs.DeclaredSorts.{super_declared, product_declared, sort_declared}
use Rattle.type_laws.proofs.Spines.{arguments_put, spine_types}

-- a name that is kept with a family is known with no other
pub known_once : (E : Env) → IsAccepted E → (f : FamilyId) (F G : FamilyDecl) → KeepsFamily E f F → KnowsFamily E f G → G ≡ F
known_once E h f F G q k = (one_of_each E h).families f G F (known_is_kept E h f G k) q

pub known_below : (E : Env) → IsAccepted E → (c : Context) (f : FamilyId) (F : FamilyDecl) (W : Term) → KeepsFamily E f F → Types bare E c (Ind f) W →
    Below E (values c) (products (F.parameters ++ F.indices) (SortT F.sort)) W
known_below E h c f F W q d =
    let r = of_ind d in
    subst (λ T. Below E (values c) T W)
    (ap family_type (known_once E h f F r.family q r.known) ∙ sym (products_append F.parameters F.indices (SortT F.sort))) r.below

-- the type of the predicate's last entry, at the indices
scrutinee_type : (f : FamilyId) (ps is : List Term) → apply (Ind f) (ps ++ is) ≡ substitute (put_all is Rel) (apply (Ind f) (map (shift (length is) 0) ps ++ variables (length is)))
scrutinee_type f ps is =
    sym (substitute-apply (put_all is Rel) (Ind f) (map (shift (length is) 0) ps ++ variables (length is))
    ∙ ap (apply (Ind f)) (each_append (substitute (put_all is Rel)) (map (shift (length is) 0) ps) (variables (length is)) ∙ (λ i. (lifted_put is Rel ps ∙ each_same ps) i ++ variables_put is Rel i)))

-- a scrutinee's indices, and the scrutinee, have the types of the predicate's entries
pub scrutinee_fits : (E : Env) → IsAccepted E → (c : Context) (f : FamilyId) (F : FamilyDecl) (ps is : List Term) (t : Term) → IsContext E c → KeepsFamily E f F →
    length is ≡ length F.indices → TypesAll bare E c Rel ps F.parameters → HasSort E c (apply (Ind f) (ps ++ is)) → Types bare E c t (apply (Ind f) (ps ++ is)) →
    TypesAll bare E c Rel (is ++ (t ∷ [])) (predicate_entries f F ps)
scrutinee_fits E h c f F ps is t k q l p (u, s) d =
    let known = kept_is_known E f F q in
    let spine = spine_types E h c (Ind f) (F.parameters ++ F.indices) (ps ++ is) (SortT F.sort) (SortT u) k
    (entries_append c F.parameters F.indices (parameters_sorted E h c f F known) (indices_sorted E h c f F known)) (λ W w. known_below E h c f F W q w)
    (together (length-append ps is) (length-append F.parameters F.indices) (types_length p) l) s in
    let inner = (all_parts Rel ps is F.parameters F.indices (types_length p) spine.arguments).inner in
    all_append (t ∷ []) (apply (Ind f) (map (shift (length F.indices) 0) ps ++ variables (length F.indices)) ∷ [])
    (types_entries inner (put_all ps Rel) Rel (λ i. substitute_same (put_all ps Rel i)))
    (term (types_at refl
    (scrutinee_type f ps is ∙ ap (λ n. substitute (put_all is Rel) (apply (Ind f) (map (shift n 0) ps ++ variables n))) l) d) no_terms)
  where
    together : {a b a' b' n m : ℕ} → n ≡ a + b → m ≡ a' + b' → a ≡ a' → b ≡ b' → n ≡ m
    together e g p q = omega arith

-- the types of a well-formed context's entries
entry_sorted : (E : Env) → IsAccepted E → (c : Context) (e : Entry) → HasSort E c (type_of e) → ((i : ℕ) (T : Term) → type_at c i ≡ Some T → HasSort E c T) →
    (i : ℕ) (T : Term) → type_at (e ∷ c) i ≡ Some T → HasSort E (e ∷ c) T
entry_sorted E h c e (u, p) k zero T q = (u, types_at (one_item q) refl (weaken_types (accepted_closed E h) p e))
entry_sorted E h c e s k (suc i) T q =
    let (U, at, r) = lifted_some (type_at c i) T q in
    let (u, p) = k i U at in
    (u, types_at (sym r) refl (weaken_types (accepted_closed E h) p e))

context_sorted : (E : Env) → IsAccepted E → (c : Context) → IsContext E c → (i : ℕ) (T : Term) → type_at c i ≡ Some T → HasSort E c T
context_sorted E h [] IsContext.empty i T e = absurd (cc)
context_sorted E h (Assumed A ∷ c) (assume k s) i T e = entry_sorted E h c (Assumed A) s (context_sorted E h c k) i T e
context_sorted E h (Defined b B ∷ c) (define k s p) i T e = entry_sorted E h c (Defined b B) s (context_sorted E h c k) i T e

-- a term from outside n entries
outside : (n : ℕ) (s : ℕ → Term) → ((i : ℕ) → s (n + i) ≡ Rel i) → (t : Term) → substitute s (shift n 0 t) ≡ t
outside n s past t = substitute-rename t (λ i. n + i) s ∙ ap (λ q. substitute q t) (fun_ext past) ∙ substitute_same t

-- the definitions of a fixpoint: the fixpoints put in for the definitions before
definition_sorted : {E : Env} → IsAccepted E → (c : Context) (rargs : List ℕ) (types bodies : Terms) {d : Context} {n : ℕ} {ts : Terms} → Sorts bare E d n ts → (s : ℕ → Term) (k : ℕ) → PutsEntries E s d c →
    ((i : ℕ) → s (n + i) ≡ Rel i) → ((j : ℕ) (T : Term) → term_at ts j ≡ Some (0, T) → Types bare E c (Fix (k + j) rargs types bodies) T) →
    (j : ℕ) (T : Term) → term_at ts j ≡ Some (0, T) → HasSort E c T
definition_sorted h c rargs types bodies no_types s k g past f j T e = absurd (cc)
definition_sorted {E} h c rargs types bodies (a_type {n = n} {T = U} {s = u} p ps) s k g past f zero T e =
    (u, types_at (outside n s past U ∙ ap (λ q. q.1) (one_item e)) refl (substitute_types (putting E (accepted_closed E h)) (accepted_closed E h) p s c g))
definition_sorted {E} h c rargs types bodies (a_type {n = n} {T = U} {ts = ts} p ps) s k g past f (suc j) T e =
    definition_sorted h c rargs types bodies ps (first (Fix k rargs types bodies) s) (suc k)
    (puts_first g (types_at (ap (λ k. Fix k rargs types bodies) (plus_zero k)) (sym (outside n s past U)) (f 0 U refl)))
    (λ i. let q : suc n + i ≡ suc (n + i) = omega arith in ap (first (Fix k rargs types bodies) s) q ∙ past i)
    (λ j T e. let q : k + suc j ≡ suc k + j = omega arith in types_at (ap (λ k. Fix k rargs types bodies) q) refl (f (suc j) T e)) j T e
  where
    plus_zero : (k : ℕ) → k + 0 ≡ k
    plus_zero k = omega arith

zero_plus : (i : ℕ) → 0 + i ≡ i
zero_plus i = omega arith

valid : {E : Env} → IsAccepted E → {c : Context} {t T : Term} → Types bare E c t T → IsContext E c → HasSort E c T
valid {E} h {c} (rel {i = i} {T = T} e) k = context_sorted E h c k i T e
valid {E} h (sort {s = s} d) k = (super_sort (super_sort s), sort (super_declared E s d))
valid {E} h {c} (prod {A = A} {B = B} {s = s} {s' = w} p q) k =
    (super_sort (product_sort s w), sort (product_declared E s w (sort_declared E h c A s k p) (sort_declared E h (Assumed A ∷ c) B w (assume k (s, p)) q)))
valid h (lambda {s = s} p q) k = let (w, r) = valid h q (assume k (s, p)) in (product_sort s w, prod p r)
valid {E} h {c} (let_in {b = b} {B = B} {T = T} {s = s} p q r) k =
    let inner = define k (s, p) q in
    let (w, v) = valid h r inner in
    (w, conv (let_in p q v) (equal (step zeta)) (sort (sort_declared E h (Defined b B ∷ c) T w inner v)))
valid {E} h {c} (app {a = a} {A = A} {B = B} p q) k =
    let (w, v) = valid h p k in
    let r = of_prod v in
    let fits : Fits E c (Assumed A) a = record { has_type = q; equals = λ v e. absurd (cc) } in
    (r.codomain_sort, substitute_types (putting E (accepted_closed E h)) (accepted_closed E h) r.codomain (put a) c (puts_one fits))
valid {E} h {c} (const {k = x} {T = T} {b = b} q) k = constant_sorted E h c x T b q
valid {E} h {c} (ind {f = f} {F = F} q) k = family_sorted E h c f F q
valid {E} h {c} (construct {f = f} {n = n} {F = F} {C = C} q e) k = constructor_sorted E h c f F n C q e
valid {E} h {c} (case {f = f} {F = F} {ret = ret} {t = t} {s = s} ps is q e l p es r may d bs) k =
    (s, arguments_put E h c (predicate_entries f F ps) (is ++ (t ∷ [])) ret (SortT s) (scrutinee_fits E h c f F ps is t k q l p (valid h d k) d) r)
valid {E} h {c} (fix {i = i} {rargs = rargs} {types = types} {bodies = bodies} {T = T} e at p b ask) k =
    definition_sorted h c rargs types bodies p Rel 0 (puts_none c) (λ i. ap Rel (zero_plus i))
    (λ j U g. types_at (ap (λ j. Fix j rargs types bodies) (sym (zero_plus j))) refl (fix e g p b tt)) i T at
valid h (conv {s = s} p b q) k = (s, q)

pub types_have_sorts : TypesHaveSorts
types_have_sorts E h c t T k d = valid h d k
