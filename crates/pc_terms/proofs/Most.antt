-- The largest of a list, as a loop finds it, and what it says of the lists within a tree.
use Rattle.std.proofs.Common.{◌≡◌, ℕ, zero, suc, ◌+◌, ◌-◌, ◌<◌, List, [], ◌∷◌, length, take, get_or, max, refl, sym, ap, ◌∙◌, subst as along, arith}
use Rattle.std.specs.Ordering.{ord_max, nat_cmp}
use Rattle.std.proofs.lemmas.Grind.{common_steps}
use denote.Param.Weighed.{most}
use Rattle.trees.specs.Tree.{terms_of}
use Rattle.pc_terms.specs.Syntax.{Term}
use Rattle.trees.specs.Measures.{depth, depth_trees, loose, loose_trees, above, above_trees}
use Rattle.pc_terms.specs.Lists.{arms_of, types_of, bodies_of, depth_defs, loose_defs, above_defs}
use Rattle.pc_terms.specs.declared.term.Branch.{Branch}
use Rattle.pc_terms.specs.declared.term.Def.{Def}

pub ord_max-numbers : (a b : ℕ) → ord_max nat_cmp a b ≡ max a b
ord_max-numbers a b = grind (arith, common_steps)

most-suc : {X : Type 0} (f : X → ℕ) (xs : List X) (i : ℕ) (o : X) → i < length xs → most f (take (suc i) xs) ≡ max (most f (take i xs)) (f (get_or xs i o))
most-suc f [] i o h = absurd (omega arith)
most-suc f (x ∷ xs) zero o h = omega arith
most-suc f (x ∷ xs) (suc i) o h = omega (arith, most-suc f xs i o (omega arith))

-- one more item, which a loop has read
pub most-more : {X : Type 0} (f : X → ℕ) (xs : List X) (i : ℕ) (x : X) → x ≡ get_or xs i x → i < length xs → most f (take (i + 1) xs) ≡ max (most f (take i xs)) (f x)
most-more f xs i x is h =
    let next : suc i ≡ i + 1 = omega arith in
    along (λ n. most f (take n xs) ≡ max (most f (take i xs)) (f x)) next (most-suc f xs i x h ∙ ap (λ y. max (most f (take i xs)) (f y)) (sym is))

pub depth_trees-most : (xs : List Term) → depth_trees (terms_of xs) ≡ most (λ x. depth x) xs
depth_trees-most [] = refl
depth_trees-most (x ∷ xs) = ap (max (depth x)) (depth_trees-most xs)

pub loose_trees-most : (xs : List Term) → loose_trees (terms_of xs) ≡ most (λ x. loose x) xs
loose_trees-most [] = refl
loose_trees-most (x ∷ xs) = omega (arith, loose_trees-most xs)

pub above_trees-most : (xs : List Term) → above_trees (terms_of xs) ≡ most (λ x. above x) xs
above_trees-most [] = refl
above_trees-most (x ∷ xs) = ap (max (above x)) (above_trees-most xs)

pub depth_arms-most : (xs : List Branch) → depth_trees (arms_of xs) ≡ most (λ x. depth x.body) xs
depth_arms-most [] = refl
depth_arms-most (x ∷ xs) = ap (max (depth x.body)) (depth_arms-most xs)

pub loose_arms-most : (xs : List Branch) → loose_trees (arms_of xs) ≡ most (λ x. loose x.body - x.binders) xs
loose_arms-most [] = refl
loose_arms-most (x ∷ xs) = ap (max (loose x.body - x.binders)) (loose_arms-most xs)

pub above_arms-most : (xs : List Branch) → above_trees (arms_of xs) ≡ most (λ x. above x.body) xs
above_arms-most [] = refl
above_arms-most (x ∷ xs) = ap (max (above x.body)) (above_arms-most xs)

depth_bodies : (m : ℕ) (xs : List Def) → max (depth_trees (types_of xs)) (depth_trees (bodies_of m xs)) ≡ most (λ x. max (depth x.ty) (depth x.body)) xs
depth_bodies m [] = refl
depth_bodies m (x ∷ xs) = omega (arith, depth_bodies m xs)

loose_bodies : (m : ℕ) (xs : List Def) → max (loose_trees (types_of xs)) (loose_trees (bodies_of m xs)) ≡ most (λ x. max (loose x.ty) (loose x.body - m)) xs
loose_bodies m [] = refl
loose_bodies m (x ∷ xs) = omega (arith, loose_bodies m xs)

above_bodies : (m : ℕ) (xs : List Def) → max (above_trees (types_of xs)) (above_trees (bodies_of m xs)) ≡ most (λ x. max (above x.ty) (above x.body)) xs
above_bodies m [] = refl
above_bodies m (x ∷ xs) = omega (arith, above_bodies m xs)

pub depth_defs-most : (xs : List Def) → depth_defs xs ≡ most (λ x. max (depth x.ty) (depth x.body)) xs
depth_defs-most xs = depth_bodies (length xs) xs

pub loose_defs-most : (xs : List Def) → loose_defs xs ≡ most (λ x. max (loose x.ty) (loose x.body - length xs)) xs
loose_defs-most xs = loose_bodies (length xs) xs

pub above_defs-most : (xs : List Def) → above_defs xs ≡ most (λ x. max (above x.ty) (above x.body)) xs
above_defs-most xs = above_bodies (length xs) xs

pub ruleset list_laws = (depth_trees-most, loose_trees-most, above_trees-most, depth_arms-most, loose_arms-most, above_arms-most, depth_defs-most, loose_defs-most, above_defs-most)
