-- Terms applied to variables and to lifted terms.
use Rattle.std.proofs.Common.{◌≡◌, ℕ, zero, suc, ◌∙◌, ◌+◌, ◌-◌, ◌<◌, ◌≤◌, inl, inr, List, [], ◌∷◌, ◌++◌, length, map, append_assoc, refl, ap, arith}
use Rattle.std.proofs.lemmas.Bool.{or_cases}
use Rattle.std.specs.Bool.{IsTrue}
use Rattle.trees.specs.Measures.{depth, depth_limit, IsBeyond}
use Rattle.pc_terms.specs.Syntax.{Term, Rel, App, apply, shift, variables}
use Rattle.pc_terms.proofs.Applied.{beyond-apply, argument_beyond}
use Rattle.pc_rules.specs.DirectedRun.{is_beyond, any_beyond}
use Rattle.instances.proofs.Beyond.{true_beyond}
use Rattle.pc_rules.proofs.SearchRuns.{variables_long}

-- a term is beyond the limits where it is applied to one that is
pub apply-any_beyond : (f : Term) (xs : List Term) → IsTrue (any_beyond xs) → IsBeyond (apply f xs)
apply-any_beyond f [] e = cc
apply-any_beyond f (x ∷ xs) e = elim (or_cases (is_beyond x) (any_beyond xs) e) [
  | inl h ↦ beyond-apply (App f x) xs (argument_beyond f x (true_beyond x h))
  | inr h ↦ apply-any_beyond (App f x) xs h
]

-- and where it is applied to too many
apply-depth : (f : Term) (xs : List Term) → length xs + depth f ≤ depth (apply f xs)
apply-depth f [] = omega arith
apply-depth f (x ∷ xs) = omega (arith, apply-depth (App f x) xs)

pub apply-long : (f : Term) (xs : List Term) → depth_limit < length xs → IsBeyond (apply f xs)
apply-long f xs h = inl (omega (arith, apply-depth f xs))

pub append-long : (xs ys : List Term) → depth_limit < length ys → depth_limit < length (xs ++ ys)
append-long [] ys h = h
append-long (x ∷ xs) ys h = omega (arith, append-long xs ys h)

-- the head applied to lifted terms and to many variables
pub under-long : (f : Term) (xs : List Term) (n : ℕ) → depth_limit < n → IsBeyond (apply f (xs ++ variables n))
under-long f xs n h = apply-long f (xs ++ variables n) (append-long xs (variables n) (omega (arith, variables_long n)))

-- the next of the lifted variables
pub variables-next : (above n i : ℕ) → i < n → map (shift above 0) (variables (n - i)) ≡ Rel (above + (n - 1 - i)) ∷ map (shift above 0) (variables (n - (i + 1)))
variables-next above n i l =
    let e : n - i ≡ suc (n - 1 - i) = omega arith in
    let f : n - 1 - i ≡ n - (i + 1) = omega arith in
    ap (λ m. map (shift above 0) (variables m)) e ∙ ap (λ m. Rel (above + (n - 1 - i)) ∷ map (shift above 0) (variables m)) f

-- an item pushed behind those that are there, before the rest
pub pushed : (new out rest whole : List Term) (t u : Term) → new ≡ out ++ (t ∷ []) → t ≡ u → out ++ (u ∷ rest) ≡ whole → new ++ rest ≡ whole
pushed new out rest whole t u e f g = ap (λ ts. ts ++ rest) (e ∙ ap (λ v. out ++ (v ∷ [])) f) ∙ append_assoc out (u ∷ []) rest ∙ g

pub variables-none : (n : ℕ) → map (shift 0 0) (variables n) ≡ variables n
variables-none zero = refl
variables-none (suc n) = let e : 0 + n ≡ n = omega arith in ap (λ m. Rel m ∷ map (shift 0 0) (variables n)) e ∙ ap (λ ts. Rel n ∷ ts) (variables-none n)
