-- The free variables of a lambda or fixpoint come to their place once the names in it are known.
use Rattle.std.proofs.Common.{◌≡◌, ℕ, List, ◌++◌, length, take, drop, ap, ◌∙◌, append_assoc}
use Rattle.std.proofs.Math.Seq.{drop-append_seam, take-append_seam}
use Rattle.closure_lift.specs.FreeVariables.{nothing, at_first}
use Rattle.closure_lift.specs.Noting.{put_first}
use Rattle.closure_lift.proofs.Noting.{put_there}

-- the lists with the new one in its place
pub noted : (old n1 n2 n3 inside : List (List ℕ)) (place count : ℕ) (xs : List ℕ) → n1 ≡ old ++ nothing count → n2 ≡ n1 ++ inside → place ≡ length old → n3 ≡ put_first place count xs n2 → n3 ≡ old ++ (at_first count xs ++ inside)
noted old n1 n2 n3 inside place count xs e1 e2 ep e3 =
    e3 ∙ ap (λ k. put_first k count xs n2) ep ∙ ap (put_first (length old) count xs) (e2 ∙ ap (λ z. z ++ inside) e1 ∙ append_assoc old (nothing count) inside) ∙ put_there old count xs inside

-- the names from a place on, and those before it
pub names_after : (xs ys zs : List ℕ) (start : ℕ) → start ≡ length xs → zs ≡ xs ++ ys → drop start zs ≡ ys
names_after xs ys zs start e f = ap (λ k. drop k zs) e ∙ ap (drop (length xs)) f ∙ drop-append_seam xs ys

pub names_before : (xs ys zs : List ℕ) (start : ℕ) → start ≡ length xs → zs ≡ xs ++ ys → take start zs ≡ xs
names_before xs ys zs start e f = ap (λ k. take k zs) e ∙ ap (take (length xs)) f ∙ take-append_seam xs ys
