-- The items of lists, walked one by one.
use Rattle.std.proofs.Common.{◌≡◌, ℕ, zero, suc, ◌<◌, ◌≤◌, ◌^◌, ◌⊎◌, inl, inr, List, [], ◌∷◌, length, map, get_or, max, refl, subst as along, arith}
use Rattle.trees.specs.Tree.{terms_of}
use Rattle.pc_terms.specs.Syntax.{Term}
use Rattle.trees.specs.Measures.{depth_trees, above_trees, depth_limit, IsBeyond, AreBeyond}
use Rattle.trees.specs.Substitution.{walk, walk_trees}
use Rattle.trees.proofs.Closed.{deeper_is}
use Rattle.pc_terms.specs.Lists.{arms_of, types_of, bodies_of, rargs_of, AreBeyondDefs, walk_branch, walk_def}
use Rattle.pc_terms.specs.declared.term.Branch.{Branch}
use Rattle.pc_terms.specs.declared.term.Def.{Def}

pub walk_terms-of : (f : ℕ → ℕ → Term) (k : ℕ) (ys : List Term) → terms_of (map (walk f k) ys) ≡ walk_trees f k (terms_of ys)
walk_terms-of f k [] = refl
walk_terms-of f k (y ∷ ys) = cc (walk_terms-of f k ys)

pub walk_arms-of : (f : ℕ → ℕ → Term) (k : ℕ) (ys : List Branch) → arms_of (map (walk_branch f k) ys) ≡ walk_trees f k (arms_of ys)
walk_arms-of f k [] = refl
walk_arms-of f k (y ∷ ys) = cc (deeper_is y.binders k, walk_arms-of f k ys)

pub walk_types-of : (f : ℕ → ℕ → Term) (k m : ℕ) (ys : List Def) → types_of (map (walk_def f k m) ys) ≡ walk_trees f k (types_of ys)
walk_types-of f k m [] = refl
walk_types-of f k m (y ∷ ys) = cc (walk_types-of f k m ys)

pub walk_bodies-of : (f : ℕ → ℕ → Term) (k m : ℕ) (ys : List Def) → bodies_of m (map (walk_def f k m) ys) ≡ walk_trees f k (bodies_of m ys)
walk_bodies-of f k m [] = refl
walk_bodies-of f k m (y ∷ ys) = cc (deeper_is m k, walk_bodies-of f k m ys)

pub walk_rargs-of : (f : ℕ → ℕ → Term) (k m : ℕ) (ys : List Def) → rargs_of (map (walk_def f k m) ys) ≡ rargs_of ys
walk_rargs-of f k m [] = refl
walk_rargs-of f k m (y ∷ ys) = cc (walk_rargs-of f k m ys)

pub walk_length : (f : ℕ → ℕ → Term) (k m : ℕ) (ys : List Def) → length (map (walk_def f k m) ys) ≡ length ys
walk_length f k m [] = refl
walk_length f k m (y ∷ ys) = omega (arith, walk_length f k m ys)

pub rargs_length : (ds : List Def) → length (rargs_of ds) ≡ length ds
rargs_length [] = refl
rargs_length (d ∷ ds) = omega (arith, rargs_length ds)

-- where one item is beyond the limits, the list is
pub larger : {a b c d : ℕ} → a ≤ c → b ≤ d → (depth_limit < a) ⊎ (2 ^ 32 < b) → (depth_limit < c) ⊎ (2 ^ 32 < d)
larger h g (inl e) = inl (omega arith)
larger h g (inr e) = inr (omega arith)

pub beyond_trees-at : (f : Term → Term) (ys : List Term) (i : ℕ) (o : Term) → i < length ys → IsBeyond (f (get_or ys i o)) → AreBeyond (terms_of (map f ys))
beyond_trees-at f [] i o h e = absurd (omega arith)
beyond_trees-at f (y ∷ ys) zero o h e = larger (omega arith) (omega arith) e
beyond_trees-at f (y ∷ ys) (suc i) o h e = larger (omega arith) (omega arith) (beyond_trees-at f ys i o (omega arith) e)

-- the same, at an item that a loop has read
pub beyond_trees-one : (f : Term → Term) (ys : List Term) (i : ℕ) (y : Term) → y ≡ get_or ys i y → i < length ys → IsBeyond (f y) → AreBeyond (terms_of (map f ys))
beyond_trees-one f ys i y is h e = beyond_trees-at f ys i y h (along (λ (y : Term). IsBeyond (f y)) is e)

pub beyond_arms-at : (f : Branch → Branch) (ys : List Branch) (i : ℕ) (o : Branch) → i < length ys → IsBeyond (f (get_or ys i o)).body → AreBeyond (arms_of (map f ys))
beyond_arms-at f [] i o h e = absurd (omega arith)
beyond_arms-at f (y ∷ ys) zero o h e = larger (omega arith) (omega arith) e
beyond_arms-at f (y ∷ ys) (suc i) o h e = larger (omega arith) (omega arith) (beyond_arms-at f ys i o (omega arith) e)

pub beyond_arms-one : (f : Branch → Branch) (ys : List Branch) (i : ℕ) (y : Branch) → y ≡ get_or ys i y → i < length ys → IsBeyond (f y).body → AreBeyond (arms_of (map f ys))
beyond_arms-one f ys i y is h e = beyond_arms-at f ys i y h (along (λ (y : Branch). IsBeyond (f y).body) is e)

abbrev AreBeyondUnder : ℕ → List Def → Type 0
AreBeyondUnder m ds = (depth_limit < max (depth_trees (types_of ds)) (depth_trees (bodies_of m ds))) ⊎ (2 ^ 32 < max (above_trees (types_of ds)) (above_trees (bodies_of m ds)))

beyond_defs-at : (f : Def → Def) (m : ℕ) (ys : List Def) (i : ℕ) (o : Def) → i < length ys → IsBeyond (f (get_or ys i o)).ty ⊎ IsBeyond (f (get_or ys i o)).body → AreBeyondUnder m (map f ys)
beyond_defs-at f m [] i o h e = absurd (omega arith)
beyond_defs-at f m (y ∷ ys) zero o h (inl e) = larger (omega arith) (omega arith) e
beyond_defs-at f m (y ∷ ys) zero o h (inr e) = larger (omega arith) (omega arith) e
beyond_defs-at f m (y ∷ ys) (suc i) o h e = larger (omega arith) (omega arith) (beyond_defs-at f m ys i o (omega arith) e)

pub beyond_defs-one : (f : Def → Def) (ys : List Def) (i : ℕ) (y : Def) → y ≡ get_or ys i y → i < length ys → IsBeyond (f y).ty ⊎ IsBeyond (f y).body → AreBeyondDefs (map f ys)
beyond_defs-one f ys i y is h e =
    beyond_defs-at f (length (map f ys)) ys i y h (along (λ (y : Def). IsBeyond (f y).ty ⊎ IsBeyond (f y).body) is e)

pub ruleset part_laws = (walk_terms-of, walk_arms-of, walk_types-of, walk_bodies-of, walk_rargs-of, walk_length, rargs_length, deeper_is)
