-- Applications to two lists, one after the other; a term that is beyond the limits stays so where it is applied.
use Rattle.std.proofs.Common.{◌≡◌, inl, inr, List, [], ◌∷◌, ◌++◌, refl, arith}
use Rattle.pc_terms.specs.Syntax.{Term, App, apply}
use Rattle.trees.specs.Measures.{IsBeyond}

pub apply-append : (f : Term) (xs ys : List Term) → apply f (xs ++ ys) ≡ apply (apply f xs) ys
apply-append f [] ys = refl
apply-append f (x ∷ xs) ys = apply-append (App f x) xs ys

-- a term beyond the limits, applied, and one applied to such a term
pub function_beyond : (f a : Term) → IsBeyond f → IsBeyond (App f a)
function_beyond f a (inl e) = inl (omega arith)
function_beyond f a (inr e) = inr (omega arith)

pub argument_beyond : (f a : Term) → IsBeyond a → IsBeyond (App f a)
argument_beyond f a (inl e) = inl (omega arith)
argument_beyond f a (inr e) = inr (omega arith)

pub beyond-apply : (f : Term) (xs : List Term) → IsBeyond f → IsBeyond (apply f xs)
beyond-apply f [] e = e
beyond-apply f (x ∷ xs) e = beyond-apply (App f x) xs (function_beyond f x e)

pub ruleset applied_laws = (beyond-apply)
