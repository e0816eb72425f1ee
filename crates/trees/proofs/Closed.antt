-- A tree that is closed below a cutoff stays as it is.
use Rattle.std.proofs.Common.{◌≡◌, ℕ, zero, suc, ◌+◌, ◌<◌, ◌≤◌, List, refl, ap, arith}
use Rattle.std.proofs.lemmas.Grind.{common_steps}
use Rattle.trees.specs.Tree.{Slot, Tree, Rel, Node, Places, End, Child, Group, Trees, Done, Next}
use Rattle.trees.specs.Closed.{Closed, ClosedChildren, ClosedTerms}
use Rattle.trees.specs.Measures.{loose, loose_places, loose_trees, above, above_places, above_trees}
use Rattle.trees.specs.Substitution.{deeper, walk, walk_places, walk_trees, lift_var, lift, subst_var, subst, subst_list_var, subst_list}
use Rattle.trees.proofs.Fusion.{child, group, next}

pub deeper_is : (n k : ℕ) → deeper n k ≡ k + n
deeper_is zero k = omega arith
deeper_is (suc n) k = refl

-- what stands for a variable below the cutoff is the variable
abbrev pub Keeps : {L : Type 0} {slots : L → List Slot} → (ℕ → ℕ → Tree L slots) → Type 0
Keeps f = (k i : ℕ) → i < k → f k i ≡ Rel i

mutual
  pub walk-closed : {L : Type 0} {slots : L → List Slot} (f : ℕ → ℕ → Tree L slots) → Keeps f → (k : ℕ) (t : Tree L slots) → loose t ≤ k → walk f k t ≡ t
  walk-closed f w k (Rel i) h = w k i (omega arith)
  walk-closed f w k (Node l ts) h = ap (Node l) (walk_places-closed f w k ts h)

  pub walk_places-closed : {L : Type 0} {slots : L → List Slot} (f : ℕ → ℕ → Tree L slots) → Keeps f → (k : ℕ) {ss : List Slot} (ts : Places L slots ss) →
      loose_places ts ≤ k → walk_places f k ts ≡ ts
  walk_places-closed f w k End h = refl
  walk_places-closed f w k (Child {n} t ts) h =
      child (walk-closed f w (deeper n k) t (omega (arith, deeper_is n k))) (walk_places-closed f w k ts (omega arith))
  walk_places-closed f w k (Group us ts) h = group (walk_trees-closed f w k us (omega arith)) (walk_places-closed f w k ts (omega arith))

  pub walk_trees-closed : {L : Type 0} {slots : L → List Slot} (f : ℕ → ℕ → Tree L slots) → Keeps f → (k : ℕ) (ts : Trees L slots) → loose_trees ts ≤ k →
      walk_trees f k ts ≡ ts
  walk_trees-closed f w k Done h = refl
  walk_trees-closed f w k (Next n t ts) h =
      next (walk-closed f w (deeper n k) t (omega (arith, deeper_is n k))) (walk_trees-closed f w k ts (omega arith))

lift_keeps : {L : Type 0} {slots : L → List Slot} (m : ℕ) → Keeps {L = L} {slots = slots} (lift_var m)
lift_keeps m k i h = grind (arith, common_steps)

subst_keeps : {L : Type 0} {slots : L → List Slot} (a : Tree L slots) → Keeps (subst_var a)
subst_keeps a k i h = grind (arith, common_steps)

subst_list_keeps : {L : Type 0} {slots : L → List Slot} (xs : List (Tree L slots)) → Keeps (subst_list_var xs)
subst_list_keeps xs k i h = grind (arith, common_steps)

pub lift-closed : {L : Type 0} {slots : L → List Slot} (m k : ℕ) (t : Tree L slots) → loose t ≤ k → lift m k t ≡ t
lift-closed m k t h = walk-closed (lift_var m) (lift_keeps m) k t h

pub subst-closed : {L : Type 0} {slots : L → List Slot} (k : ℕ) (a t : Tree L slots) → loose t ≤ k → subst k a t ≡ t
subst-closed k a t h = walk-closed (subst_var a) (subst_keeps a) k t h

pub subst_list-closed : {L : Type 0} {slots : L → List Slot} (k : ℕ) (xs : List (Tree L slots)) (t : Tree L slots) → loose t ≤ k → subst_list k xs t ≡ t
subst_list-closed k xs t h = walk-closed (subst_list_var xs) (subst_list_keeps xs) k t h

mutual
  pub loose_le_above : {L : Type 0} {slots : L → List Slot} (t : Tree L slots) → loose t ≤ above t
  loose_le_above (Rel i) = omega arith
  loose_le_above (Node l ts) = loose_places_le_above ts

  pub loose_places_le_above : {L : Type 0} {slots : L → List Slot} {ss : List Slot} (ts : Places L slots ss) → loose_places ts ≤ above_places ts
  loose_places_le_above End = omega arith
  loose_places_le_above (Child {n} t ts) = omega (arith, loose_le_above t, loose_places_le_above ts)
  loose_places_le_above (Group us ts) = omega (arith, loose_trees_le_above us, loose_places_le_above ts)

  pub loose_trees_le_above : {L : Type 0} {slots : L → List Slot} (ts : Trees L slots) → loose_trees ts ≤ above_trees ts
  loose_trees_le_above Done = omega arith
  loose_trees_le_above (Next n t ts) = omega (arith, loose_le_above t, loose_trees_le_above ts)

pub ruleset closed_laws = (lift-closed, subst-closed, subst_list-closed)

-- the loose bound is the least number that the tree is closed below
mutual
  pub loose-least : {L : Type 0} {slots : L → List Slot} (k : ℕ) (t : Tree L slots) → Closed k t → loose t ≤ k
  loose-least k (Rel i) c = omega arith
  loose-least k (Node l ts) c = loose_places-least k ts c

  pub loose_places-least : {L : Type 0} {slots : L → List Slot} (k : ℕ) {ss : List Slot} (ts : Places L slots ss) → ClosedChildren k ts → loose_places ts ≤ k
  loose_places-least k End c = omega arith
  loose_places-least k (Child {n} t ts) c = omega (arith, loose-least (n + k) t c.0, loose_places-least k ts c.1)
  loose_places-least k (Group us ts) c = omega (arith, loose_trees-least k us c.0, loose_places-least k ts c.1)

  pub loose_trees-least : {L : Type 0} {slots : L → List Slot} (k : ℕ) (ts : Trees L slots) → ClosedTerms k ts → loose_trees ts ≤ k
  loose_trees-least k Done c = omega arith
  loose_trees-least k (Next n t ts) c = omega (arith, loose-least (n + k) t c.0, loose_trees-least k ts c.1)

mutual
  pub loose-closed : {L : Type 0} {slots : L → List Slot} (k : ℕ) (t : Tree L slots) → loose t ≤ k → Closed k t
  loose-closed k (Rel i) h = omega arith
  loose-closed k (Node l ts) h = loose_places-closed k ts h

  pub loose_places-closed : {L : Type 0} {slots : L → List Slot} (k : ℕ) {ss : List Slot} (ts : Places L slots ss) → loose_places ts ≤ k → ClosedChildren k ts
  loose_places-closed k End h = tt
  loose_places-closed k (Child {n} t ts) h = (loose-closed (n + k) t (omega arith), loose_places-closed k ts (omega arith))
  loose_places-closed k (Group us ts) h = (loose_trees-closed k us (omega arith), loose_places-closed k ts (omega arith))

  pub loose_trees-closed : {L : Type 0} {slots : L → List Slot} (k : ℕ) (ts : Trees L slots) → loose_trees ts ≤ k → ClosedTerms k ts
  loose_trees-closed k Done h = tt
  loose_trees-closed k (Next n t ts) h = (loose-closed (n + k) t (omega arith), loose_trees-closed k ts (omega arith))

pub ruleset loose_laws = (loose_le_above, loose-closed, loose-least)
