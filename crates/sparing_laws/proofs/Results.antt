-- What sparing evaluation leaves: values, and values extended by what was handed on. Of a family it is one of its constructors with all parameters and arguments.
use Rattle.std.proofs.Common.{◌≡◌, ℕ, List, [], ◌∷◌, ◌++◌, refl, sym, ap, ◌∙◌, arith}
use Rattle.pc_terms.specs.declared.leaf.FamilyId.{FamilyId}
use Rattle.pc_terms.specs.Syntax.{Term, App, Ind, Construct, Fix, apply}
use Rattle.calculus_rules.specs.Environment.{Env}
use Rattle.calculus_rules.specs.Conversion.{Below, equal}
use Rattle.calculus_rules.specs.Erasable.{Erasable}
use Rattle.calculus_rules.specs.Evaluation.{IsValue, sort_is, prod_is, lambda_is, ind_is, construct_is, fix_is, TakesMore, family, constructor, fixpoint, Unfolds, unfolds, IsBuilt}
use Rattle.calculus_rules.specs.Typing.{bare, Types, Recurses, recurses_here, recurses_later}
use Rattle.calculus_rules.specs.Accepted.{IsAccepted}
use Rattle.calculus_rules.proofs.Spines.{apply_one_more}
use Rattle.typing_laws.proofs.Generating.{of_sort, of_prod, of_lambda, of_construct}
use Rattle.type_laws.specs.Contexts.{IsContext}
use Rattle.type_laws.proofs.Apart.{sort_not_family, product_not_family}
use Rattle.type_laws.proofs.RootsKeep.{beta_argument}
use Rattle.type_laws.proofs.Results.{fixpoint_body, fixpoint_reduced}
use Rattle.type_laws.proofs.Canonical.{one_more, family_is_not, fixpoint_is_not, Built, constructor_built, one_longer}
use Rattle.sparing_laws.specs.SparingEvaluation.{EvaluatesSparingly, value, let_in, beta, extend, unfold_fix, enter, HandsOn, left, evaluated}

mutual
  pub data IsSparingResult (E : Env) : Term → Type 0 where
    plain : {v : Term} → IsValue v → IsSparingResult E v
    extended : {g w : Term} → IsSparingResult E g → IsHanded E w → TakesMore E g → IsSparingResult E (App g w)

  pub data IsHanded (E : Env) : Term → Type 0 where
    spared : {w : Term} → Erasable E [] w → IsHanded E w
    kept : {w : Term} → IsSparingResult E w → IsHanded E w

mutual
  pub sparing_result : {E : Env} {t v : Term} {n : ℕ} → EvaluatesSparingly E t v n → IsSparingResult E v
  sparing_result (value i) = plain i
  sparing_result (EvaluatesSparingly.constant k e) = sparing_result e
  sparing_result (let_in e e') = sparing_result e'
  sparing_result (beta e e' e'') = sparing_result e''
  sparing_result (extend e e' m) = extended (sparing_result e) (handed_result e') m
  sparing_result (unfold_fix e e' u e'') = sparing_result e''
  sparing_result (enter e c b e') = sparing_result e'

  pub handed_result : {E : Env} {t v : Term} {n : ℕ} → HandsOn E t v n → IsHanded E v
  handed_result (left e) = spared e
  handed_result (evaluated e) = kept (sparing_result e)

pub sparing_canonical : (E : Env) → IsAccepted E → (f : FamilyId) (is : List Term) {v : Term} (T : Term) → IsSparingResult E v → Types bare E [] v T → Below E [] T (apply (Ind f) is) → Built E f v
sparing_canonical E h f is T (plain (sort_is {s = s})) d b = absurd (sort_not_family E h [] _ f is (Below.chain (of_sort d).below b))
sparing_canonical E h f is T (plain prod_is) d b = absurd (sort_not_family E h [] _ f is (Below.chain (of_prod d).below b))
sparing_canonical E h f is T (plain (lambda_is {A = A})) d b = let r = of_lambda d in absurd (product_not_family E h [] A r.codomain f is (Below.chain r.below b))
sparing_canonical E h f is T (plain (ind_is {f = g})) d b = absurd (family_is_not E h g [] T f is d b)
sparing_canonical E h f is T (plain (construct_is {f = g} {c = c})) d b =
    let r = of_construct d in constructor_built E h g c r.family r.constructor [] (Construct g c) T f is r.kept r.at (omega arith) refl d b
sparing_canonical E h f is T (plain (fix_is {i = i} {rargs = rargs} {types = types} {bodies = bodies})) d b =
    let (rarg, _, e, _) = fixpoint_body d in absurd (fixpoint_is_not E h i rarg rargs types bodies [] T f is e (omega arith) d b)
sparing_canonical E h f is T (extended {w = w} r r' (family g xs e)) d b = absurd (family_is_not E h g (xs ++ (w ∷ [])) T f is (one_more (Ind g) xs e d) b)
sparing_canonical E h f is T (extended {w = w} r r' (constructor g c xs {F = F} {C = C} k i l e)) d b =
    let n = one_longer xs w in
    constructor_built E h g c F C (xs ++ (w ∷ [])) _ T f is k i (omega arith) (ap (λ g. App g w) e ∙ sym (apply_one_more (Construct g c) w xs)) (one_more (Construct g c) xs e d) b
sparing_canonical E h f is T (extended {w = w} r r' (fixpoint i rargs types bodies xs {rarg = rarg} q l e)) d b =
    let n = one_longer xs w in
    absurd (fixpoint_is_not E h i rarg rargs types bodies (xs ++ (w ∷ [])) T f is q (omega arith) (one_more (Fix i rargs types bodies) xs e d) b)

-- the recursive argument of an unfolded fixpoint

built_argument : (E : Env) → IsAccepted E → {k : ℕ} {t : Term} (v T : Term) → k ≡ 0 → Recurses E [] k t → Types bare E [] (App t v) T → IsSparingResult E v → IsBuilt E v
built_argument E h v T z (recurses_here {A = A} {b = b} f xs e) d r =
    let (c, qs, ys, k) = sparing_canonical E h f xs A r (beta_argument E h [] A b v T IsContext.empty d) (equal e) in (f, c, qs, ys, k)
built_argument E h v T z (recurses_later p) d r = absurd (omega arith)

pub looked_at_is_built : (E : Env) → IsAccepted E → (g a v u T : Term) (n : ℕ) → EvaluatesSparingly E a v n → Unfolds g v u → Types bare E [] (App g v) T → IsBuilt E v
looked_at_is_built E h g a v u T n e (unfolds i rargs types bodies xs {rarg = rarg} q l b p) d =
    let r = fixpoint_reduced E h i rarg rargs types bodies xs (v ∷ []) T q (omega arith) (one_more (Fix i rargs types bodies) xs p d) in
    let z = r.count in
    built_argument E h v T (omega arith) r.recurses r.typed (sparing_result e)
