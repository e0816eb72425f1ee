-- Closed values of a family are constructors with all their parameters and arguments (canonicity).
use Rattle.std.proofs.Common.{◌≡◌, ℕ, suc, ◌+◌, ◌≤◌, List, [], ◌∷◌, ◌++◌, length, take, drop, Some, refl, sym, ap, ◌∙◌, subst, arith, slice_get, map, append-nil, length-append, length-drop}
use Rattle.std.proofs.lemmas.List.{length-take-le, take-append-drop}
use Rattle.universe_levels.specs.declared.sort.Sort.{Sort}
use Rattle.pc_terms.specs.declared.leaf.FamilyId.{FamilyId}
use Rattle.pc_terms.specs.Syntax.{Term, Terms, SortT, App, Ind, Construct, Fix, substitute, shift, variables, apply}
use Rattle.calculus_rules.specs.declared.declaration.Constructor.{Constructor}
use Rattle.calculus_rules.specs.Environment.{Env, FamilyDecl, KeepsFamily}
use Rattle.calculus_rules.specs.Conversion.{Equal, Below, equal}
use Rattle.calculus_rules.specs.Instances.{products}
use Rattle.calculus_rules.specs.Step.{IsConstructor, is_constructor}
use Rattle.calculus_rules.specs.Evaluation.{sort_is, prod_is, lambda_is, ind_is, construct_is, fix_is, family, constructor, fixpoint, Evaluates, Unfolds, unfolds, IsBuilt}
use Rattle.calculus_rules.specs.Typing.{bare, Types, Recurses, recurses_here, recurses_later}
use Rattle.calculus_rules.specs.Accepted.{IsAccepted}
use Rattle.calculus_rules.proofs.Spines.{apply_one_more, substitute-apply}
use Rattle.typing_laws.proofs.Generating.{of_sort, of_prod, of_lambda, of_construct}
use Rattle.typing_laws.proofs.Telescopes.{products_append}
use Rattle.typing_laws.proofs.Traversal.{types_at, below_at}
use Rattle.type_laws.specs.Contexts.{IsContext}
use Rattle.type_laws.specs.Laws.{ValuesAreConstructors}
use Rattle.type_laws.proofs.Apart.{sort_not_family, product_not_family, families_below}
use Rattle.type_laws.proofs.RootsKeep.{beta_argument}
use Rattle.type_laws.proofs.MatchesKeep.{above_declared}
use Rattle.type_laws.proofs.Results.{IsResult, plain, extended, result, rest, Rest, family_rest, fixpoint_body, fixpoint_reduced}

-- one more argument
pub one_more : {E : Env} {g a T : Term} (h : Term) (xs : List Term) → g ≡ apply h xs → Types bare E [] (App g a) T → Types bare E [] (apply h (xs ++ (a ∷ []))) T
one_more {a = a} h xs e d = types_at (ap (λ g. App g a) e ∙ sym (apply_one_more h a xs)) refl d

pub one_longer : {A : Type 0} (xs : List A) (a : A) → length (xs ++ (a ∷ [])) ≡ suc (length xs)
one_longer xs a = let e = length-append xs (a ∷ []) in omega arith

-- products that end in a sort are below no family, so a family applied to terms has no type of a family
arity_not_family : (E : Env) → IsAccepted E → (As : List Term) (s : Sort) (f : FamilyId) (is : List Term) → Below E [] (products As (SortT s)) (apply (Ind f) is) → ⊥
arity_not_family E h [] s f is b = sort_not_family E h [] s f is b
arity_not_family E h (A ∷ As) s f is b = product_not_family E h [] A (products As (SortT s)) f is b

pub family_is_not : (E : Env) → IsAccepted E → (g : FamilyId) (xs : List Term) (T : Term) (f : FamilyId) (is : List Term) → Types bare E [] (apply (Ind g) xs) T →
    Below E [] T (apply (Ind f) is) → ⊥
family_is_not E h g xs T f is d b = let (F, Bs, k, p) = family_rest E h g xs T d in arity_not_family E h Bs F.sort f is (Below.chain p b)

-- a fixpoint without its recursive argument is a lambda after its arguments are put in
lambda_is_not : (E : Env) → IsAccepted E → {r : ℕ} {t : Term} (T : Term) (f : FamilyId) (is : List Term) → Recurses E [] r t → Types bare E [] t T →
    Below E [] T (apply (Ind f) is) → ⊥
lambda_is_not E h T f is (recurses_here {A = A} g xs e) d b = let r = of_lambda d in product_not_family E h [] A r.codomain f is (Below.chain r.below b)
lambda_is_not E h T f is (recurses_later {A = A} p) d b = let r = of_lambda d in product_not_family E h [] A r.codomain f is (Below.chain r.below b)

pub fixpoint_is_not : (E : Env) → IsAccepted E → (i rarg : ℕ) (rargs : List ℕ) (types bodies : Terms) (xs : List Term) (T : Term) (f : FamilyId) (is : List Term) → slice_get rargs i ≡ Some rarg →
    length xs ≤ rarg → Types bare E [] (apply (Fix i rargs types bodies) xs) T → Below E [] T (apply (Ind f) is) → ⊥
fixpoint_is_not E h i rarg rargs types bodies xs T f is e l d b =
    let r = fixpoint_reduced E h i rarg rargs types bodies xs [] T e l (types_at (ap (apply (Fix i rargs types bodies)) (sym (append-nil xs))) refl d) in
    lambda_is_not E h T f is r.recurses r.typed b

-- a constructor of a family has all its parameters and arguments
abbrev pub Built : Env → FamilyId → Term → Type 0
Built E f v = (c : ℕ) × (qs : List Term) × (xs : List Term) × IsConstructor E f c v qs xs

pub constructor_built : (E : Env) → IsAccepted E → (g : FamilyId) (n : ℕ) (F : FamilyDecl) (C : Constructor) (xs : List Term) (v T : Term) (f : FamilyId) (is : List Term) → KeepsFamily E g F →
    slice_get F.constructors n ≡ Some C → length xs ≤ length F.parameters + length C.args → v ≡ apply (Construct g n) xs → Types bare E [] (apply (Construct g n) xs) T →
    Below E [] T (apply (Ind f) is) → Built E f v
constructor_built E h g n F C xs v T f is k i l ev d b =
    let long = length-append F.parameters C.args in
    go (rest E h xs (F.parameters ++ C.args) (Construct g n) end T
    (λ U q. below_at (sym (products_append F.parameters C.args end)) refl (above_declared E h [] g F n C U k i q)) (omega arith) d)
  where
    ends : List Term
    ends = map (shift (length C.args) 0) (variables (length F.parameters)) ++ C.result

    end : Term
    end = apply (Ind g) ends

    all : length xs ≡ length F.parameters + length C.args → (s : ℕ → Term) → Below E [] (substitute s end) T → Built E f v
    all e s below =
        let same = families_below E h [] g f (map (substitute s) ends) is (below_at (substitute-apply s (Ind g) ends) refl (Below.chain below b)) in
        subst (λ f. Built E f v) same.family (
          n,
          take (length F.parameters) xs,
          drop (length F.parameters) xs,
          is_constructor k i (length-take-le (length F.parameters) xs (omega arith)) (let q = length-drop (length F.parameters) xs in omega arith)
              (ev ∙ ap (apply (Construct g n)) (sym (take-append-drop (length F.parameters) xs))),
        )

    go : Rest E (length xs) (length (F.parameters ++ C.args)) end T → Built E f v
    go r = at r.entries r.count r.below
      where
        at : (entries : List Term) → length entries + length xs ≡ length (F.parameters ++ C.args) → Below E [] (products entries (substitute r.puts end)) T → Built E f v
        at [] e below = let long = length-append F.parameters C.args in all (omega arith) r.puts below
        at (A ∷ As) e below = absurd (product_not_family E h [] A (products As (substitute r.puts end)) f is (Below.chain below b))

pub canonical : (E : Env) → IsAccepted E → (f : FamilyId) (is : List Term) {v : Term} (T : Term) → IsResult E v → Types bare E [] v T → Below E [] T (apply (Ind f) is) → Built E f v
canonical E h f is T (plain (sort_is {s = s})) d b = absurd (sort_not_family E h [] _ f is (Below.chain (of_sort d).below b))
canonical E h f is T (plain prod_is) d b = absurd (sort_not_family E h [] _ f is (Below.chain (of_prod d).below b))
canonical E h f is T (plain (lambda_is {A = A})) d b = let r = of_lambda d in absurd (product_not_family E h [] A r.codomain f is (Below.chain r.below b))
canonical E h f is T (plain (ind_is {f = g})) d b = absurd (family_is_not E h g [] T f is d b)
canonical E h f is T (plain (construct_is {f = g} {c = c})) d b =
    let r = of_construct d in constructor_built E h g c r.family r.constructor [] (Construct g c) T f is r.kept r.at (omega arith) refl d b
canonical E h f is T (plain (fix_is {i = i} {rargs = rargs} {types = types} {bodies = bodies})) d b =
    let (rarg, _, e, _) = fixpoint_body d in absurd (fixpoint_is_not E h i rarg rargs types bodies [] T f is e (omega arith) d b)
canonical E h f is T (extended {w = w} r r' (family g xs e)) d b = absurd (family_is_not E h g (xs ++ (w ∷ [])) T f is (one_more (Ind g) xs e d) b)
canonical E h f is T (extended {w = w} r r' (constructor g c xs {F = F} {C = C} k i l e)) d b =
    let n = one_longer xs w in
    constructor_built E h g c F C (xs ++ (w ∷ [])) _ T f is k i (omega arith) (ap (λ g. App g w) e ∙ sym (apply_one_more (Construct g c) w xs)) (one_more (Construct g c) xs e d) b
canonical E h f is T (extended {w = w} r r' (fixpoint i rargs types bodies xs {rarg = rarg} q l e)) d b =
    let n = one_longer xs w in
    absurd (fixpoint_is_not E h i rarg rargs types bodies (xs ++ (w ∷ [])) T f is q (omega arith) (one_more (Fix i rargs types bodies) xs e d) b)

pub values_are_constructors : ValuesAreConstructors
values_are_constructors E h f is t v n e d = canonical E h f is (apply (Ind f) is) (result e) d (equal Equal.same)

-- the recursive argument of an unfolded fixpoint

built_argument : (E : Env) → IsAccepted E → {k : ℕ} {t : Term} (v T : Term) → k ≡ 0 → Recurses E [] k t → Types bare E [] (App t v) T → IsResult E v → IsBuilt E v
built_argument E h v T z (recurses_here {A = A} {b = b} f xs e) d r =
    let (c, qs, ys, k) = canonical E h f xs A r (beta_argument E h [] A b v T IsContext.empty d) (equal e) in (f, c, qs, ys, k)
built_argument E h v T z (recurses_later p) d r = absurd (omega arith)

pub recursive_argument_built : (E : Env) → IsAccepted E → (g a v u T : Term) (n : ℕ) → Evaluates E a v n → Unfolds g v u → Types bare E [] (App g v) T → IsBuilt E v
recursive_argument_built E h g a v u T n e (unfolds i rargs types bodies xs {rarg = rarg} q l b p) d =
    let r = fixpoint_reduced E h i rarg rargs types bodies xs (v ∷ []) T q (omega arith) (one_more (Fix i rargs types bodies) xs p d) in
    let z = r.count in
    built_argument E h v T (omega arith) r.recurses r.typed (result e)
