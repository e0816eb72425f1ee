-- Canonical forms of products: what evaluation leaves of a product type is a lambda, or a value that goes on with an argument.
use Rattle.std.proofs.Common.{◌≡◌, ℕ, ◌+◌, ◌<◌, ◌≤◌, List, [], ◌∷◌, ◌++◌, ◌⊎◌, inl, inr, length, Some, slice_get, map, refl, sym, ap, ◌∙◌, arith, length-append}
use Rattle.std.proofs.Math.Nat.{eq-or-lt_of_le}
use Rattle.pc_terms.specs.declared.leaf.FamilyId.{FamilyId}
use Rattle.pc_terms.specs.Syntax.{Term, Terms, Prod, Lambda, App, Ind, Construct, Fix, shift, substitute, apply, variables}
use Rattle.calculus_rules.specs.declared.declaration.Constructor.{Constructor}
use Rattle.calculus_rules.specs.Environment.{Env, FamilyDecl, KeepsFamily}
use Rattle.calculus_rules.specs.Conversion.{Below}
use Rattle.calculus_rules.specs.Instances.{products}
use Rattle.calculus_rules.specs.Evaluation.{sort_is, prod_is, lambda_is, ind_is, construct_is, fix_is, family, constructor, fixpoint}
use Rattle.calculus_rules.specs.Typing.{bare, Types}
use Rattle.calculus_rules.specs.Accepted.{IsAccepted}
use Rattle.calculus_rules.proofs.Spines.{apply_one_more, substitute-apply}
use Rattle.typing_laws.proofs.Generating.{of_sort, of_prod, of_construct, of_apply}
use Rattle.typing_laws.proofs.Telescopes.{products_append}
use Rattle.typing_laws.proofs.Traversal.{types_at, below_at}
use Rattle.type_laws.proofs.Apart.{sort_not_product, family_not_product}
use Rattle.type_laws.proofs.Canonical.{one_longer}
use Rattle.type_laws.proofs.MatchesKeep.{above_declared}
use Rattle.type_laws.proofs.Results.{IsResult, plain, extended, rest, Rest, fixpoint_body}
use Rattle.progress.proofs.Tests.{GoesOn, family_goes, constructor_goes, fixpoint_grows, fixpoint_turns}

-- a value with head h and one argument more
longer_spine : {g : Term} (h w : Term) (xs : List Term) → g ≡ apply h xs → App g w ≡ apply h (xs ++ (w ∷ []))
longer_spine h w xs e = ap (λ g. App g w) e ∙ sym (apply_one_more h w xs)

-- a constructor of product type has arguments missing
constructor_on : (E : Env) → IsAccepted E → (g v A B : Term) (f : FamilyId) (c : ℕ) (F : FamilyDecl) (C : Constructor) (xs : List Term) → KeepsFamily E f F →
    slice_get F.constructors c ≡ Some C → length xs ≤ length F.parameters + length C.args → g ≡ apply (Construct f c) xs → Types bare E [] g (Prod A B) → GoesOn E g v
constructor_on E h g v A B f c F C xs k i l e d =
    let long = length-append F.parameters C.args in
    go (rest E h xs (F.parameters ++ C.args) (Construct f c) end (Prod A B)
    (λ U q. below_at (sym (products_append F.parameters C.args end)) refl (above_declared E h [] f F c C U k i q)) (omega arith) (types_at e refl d))
  where
    ends : List Term
    ends = map (shift (length C.args) 0) (variables (length F.parameters)) ++ C.result

    end : Term
    end = apply (Ind f) ends

    at : (s : ℕ → Term) (entries : List Term) → length entries + length xs ≡ length (F.parameters ++ C.args) → Below E [] (products entries (substitute s end)) (Prod A B) → GoesOn E g v
    at s [] n b = absurd (family_not_product E h [] A B f (map (substitute s) ends) (below_at (substitute-apply s (Ind f) ends) refl b))
    at s (T ∷ Ts) n b = let long = length-append F.parameters C.args in constructor_goes E h g v f c F C xs k i (omega arith) e

    go : Rest E (length xs) (length (F.parameters ++ C.args)) end (Prod A B) → GoesOn E g v
    go r = at r.puts r.entries r.count r.below

-- a fixpoint with at most rarg arguments is extended or unfolds
fixpoint_on : (E : Env) (g v T : Term) (i rarg : ℕ) (rargs : List ℕ) (types bodies : Terms) (xs : List Term) → slice_get rargs i ≡ Some rarg → length xs ≤ rarg →
    g ≡ apply (Fix i rargs types bodies) xs → Types bare E [] g T → GoesOn E g v
fixpoint_on E g v T i rarg rargs types bodies xs r l e d = go (eq-or-lt_of_le l)
  where
    go : (length xs ≡ rarg) ⊎ (length xs < rarg) → GoesOn E g v
    go (inl q) =
        let (_, body, _, b) = fixpoint_body (of_apply xs (Fix i rargs types bodies) (types_at e refl d)).1 in
        fixpoint_turns E g v i rarg rargs types bodies body xs r q b e
    go (inr q) = fixpoint_grows E g v i rarg rargs types bodies xs r q e

pub goes_on : (E : Env) → IsAccepted E → {g : Term} (v A B : Term) → ((D b : Term) → g ≡ Lambda D b → ⊥) → IsResult E g → Types bare E [] g (Prod A B) → GoesOn E g v
goes_on E h v A B n (plain sort_is) d = absurd (sort_not_product E h [] A B _ (of_sort d).below)
goes_on E h v A B n (plain prod_is) d = absurd (sort_not_product E h [] A B _ (of_prod d).below)
goes_on E h v A B n (plain (lambda_is {A = D} {b = b})) d = absurd (n D b refl)
goes_on E h {g} v A B n (plain (ind_is {f = f})) d = family_goes E g v f [] refl
goes_on E h {g} v A B n (plain (construct_is {f = f} {c = c})) d =
    let r = of_construct d in constructor_on E h g v A B f c r.family r.constructor [] r.kept r.at (omega arith) refl d
goes_on E h {g} v A B n (plain (fix_is {i = i} {rargs = rargs} {types = types} {bodies = bodies})) d =
    let (rarg, _, e, _) = fixpoint_body d in fixpoint_on E g v (Prod A B) i rarg rargs types bodies [] e (omega arith) refl d
goes_on E h {g} v A B n (extended {w = w} r r' (family f xs e)) d = family_goes E g v f (xs ++ (w ∷ [])) (longer_spine (Ind f) w xs e)
goes_on E h {g} v A B n (extended {w = w} r r' (constructor f c xs {F = F} {C = C} k i l e)) d =
    let m = one_longer xs w in
    constructor_on E h g v A B f c F C (xs ++ (w ∷ [])) k i (omega arith) (longer_spine (Construct f c) w xs e) d
goes_on E h {g} v A B n (extended {w = w} r r' (fixpoint i rargs types bodies xs {rarg = rarg} q l e)) d =
    let m = one_longer xs w in
    fixpoint_on E g v (Prod A B) i rarg rargs types bodies (xs ++ (w ∷ [])) q (omega arith) (longer_spine (Fix i rargs types bodies) w xs e) d
