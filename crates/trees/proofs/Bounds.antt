-- What trees are closed below, and how deep they are, after a renaming or a substitution.
use Rattle.std.proofs.Common.{◌≡◌, ℕ, zero, suc, ◌+◌, ◌-◌, ◌<◌, ◌≤◌, List, [], ◌∷◌, length, max, refl, subst as along, arith}
use Rattle.std.proofs.lemmas.Grind.{common_steps}
use Rattle.trees.specs.Tree.{Slot, Tree, Rel, Node, Places, End, Child, Group, Trees, Done, Next}
use Rattle.trees.specs.Substitution.{deeper, walk_places, walk_trees, lift_var, lift}
use Rattle.trees.specs.Parallel.{ups, rename, rename_children, rename_terms, overs, substitute, substitute_children, substitute_terms, first, put, put_all}
use Rattle.trees.specs.Closed.{Closed, ClosedChildren, ClosedTerms, ClosedEach}
use Rattle.trees.specs.Measures.{depth, depth_places, depth_trees, nodes, nodes_places, nodes_trees, loose, loose_places, loose_trees, above, above_places, above_trees}
use Rattle.trees.proofs.Closed.{deeper_is}

pub closed_at : {L : Type 0} {slots : L → List Slot} {n m : ℕ} (t : Tree L slots) → n ≡ m → Closed n t → Closed m t
closed_at t e c = along (λ k. Closed k t) e c

-- variables below n become variables below m
abbrev pub Bounds : (ℕ → ℕ) → ℕ → ℕ → Type 0
Bounds r n m = (i : ℕ) → i < n → r i < m

pub ups_bounds : (b : ℕ) (r : ℕ → ℕ) (n m : ℕ) → Bounds r n m → Bounds (ups b r) (b + n) (b + m)
ups_bounds zero r n m h i l = let g : r i < m = h i (omega arith) in omega arith
ups_bounds (suc b) r n m h zero l = omega arith
ups_bounds (suc b) r n m h (suc i) l = omega (arith, ups_bounds b r n m h i (omega arith))

mutual
  pub rename-closed : {L : Type 0} {slots : L → List Slot} (t : Tree L slots) (r : ℕ → ℕ) (n m : ℕ) → Bounds r n m → Closed n t → Closed m (rename r t)
  rename-closed (Rel i) r n m h c = h i c
  rename-closed (Node l ts) r n m h c = rename_children-closed ts r n m h c

  pub rename_children-closed : {L : Type 0} {slots : L → List Slot} {ss : List Slot} (ts : Places L slots ss) (r : ℕ → ℕ) (n m : ℕ) → Bounds r n m →
      ClosedChildren n ts → ClosedChildren m (rename_children r ts)
  rename_children-closed End r n m h c = tt
  rename_children-closed (Child {n = b} t ts) r n m h c =
      (rename-closed t (ups b r) (b + n) (b + m) (ups_bounds b r n m h) c.0, rename_children-closed ts r n m h c.1)
  rename_children-closed (Group us ts) r n m h c = (rename_terms-closed us r n m h c.0, rename_children-closed ts r n m h c.1)

  pub rename_terms-closed : {L : Type 0} {slots : L → List Slot} (ts : Trees L slots) (r : ℕ → ℕ) (n m : ℕ) → Bounds r n m →
      ClosedTerms n ts → ClosedTerms m (rename_terms r ts)
  rename_terms-closed Done r n m h c = tt
  rename_terms-closed (Next b t ts) r n m h c =
      (rename-closed t (ups b r) (b + n) (b + m) (ups_bounds b r n m h) c.0, rename_terms-closed ts r n m h c.1)

-- variables below n become trees that are closed below m
abbrev pub Fits : {L : Type 0} {slots : L → List Slot} → (ℕ → Tree L slots) → ℕ → ℕ → Type 0
Fits s n m = (i : ℕ) → i < n → Closed m (s i)

pub overs_fits : {L : Type 0} {slots : L → List Slot} (b : ℕ) (s : ℕ → Tree L slots) (n m : ℕ) → Fits s n m → Fits (overs b s) (b + n) (b + m)
overs_fits zero s n m h i l = closed_at (s i) (omega arith) (h i (omega arith))
overs_fits (suc b) s n m h zero l = omega arith
overs_fits (suc b) s n m h (suc i) l =
    rename-closed (overs b s i) suc (b + m) (suc b + m) (λ i l. omega arith) (overs_fits b s n m h i (omega arith))

mutual
  pub substitute-closed : {L : Type 0} {slots : L → List Slot} (t : Tree L slots) (s : ℕ → Tree L slots) (n m : ℕ) → Fits s n m → Closed n t → Closed m (substitute s t)
  substitute-closed (Rel i) s n m h c = h i c
  substitute-closed (Node l ts) s n m h c = substitute_children-closed ts s n m h c

  pub substitute_children-closed : {L : Type 0} {slots : L → List Slot} {ss : List Slot} (ts : Places L slots ss) (s : ℕ → Tree L slots) (n m : ℕ) → Fits s n m →
      ClosedChildren n ts → ClosedChildren m (substitute_children s ts)
  substitute_children-closed End s n m h c = tt
  substitute_children-closed (Child {n = b} t ts) s n m h c =
      (substitute-closed t (overs b s) (b + n) (b + m) (overs_fits b s n m h) c.0, substitute_children-closed ts s n m h c.1)
  substitute_children-closed (Group us ts) s n m h c = (substitute_terms-closed us s n m h c.0, substitute_children-closed ts s n m h c.1)

  pub substitute_terms-closed : {L : Type 0} {slots : L → List Slot} (ts : Trees L slots) (s : ℕ → Tree L slots) (n m : ℕ) → Fits s n m →
      ClosedTerms n ts → ClosedTerms m (substitute_terms s ts)
  substitute_terms-closed Done s n m h c = tt
  substitute_terms-closed (Next b t ts) s n m h c =
      (substitute-closed t (overs b s) (b + n) (b + m) (overs_fits b s n m h) c.0, substitute_terms-closed ts s n m h c.1)

pub put_fits : {L : Type 0} {slots : L → List Slot} (a : Tree L slots) (n : ℕ) → Closed n a → Fits (put a) (suc n) n
put_fits a n c zero l = c
put_fits a n c (suc i) l = omega arith

pub put_all_fits : {L : Type 0} {slots : L → List Slot} (xs : List (Tree L slots)) (s : ℕ → Tree L slots) (m n : ℕ) → Fits s m n → ClosedEach n xs →
    Fits (put_all xs s) (length xs + m) n
put_all_fits [] s m n h c i l = h i (omega arith)
put_all_fits (x ∷ xs) s m n h c i l = put_all_fits xs (first x s) (suc m) n (more h) c.1 i (omega arith)
  where
    more : Fits s m n → Fits (first x s) (suc m) n
    more h zero l = c.0
    more h (suc i) l = h i (omega arith)

-- a lift changes neither depth nor number of nodes, and no variable's number by more than its amount
mutual
  pub depth-lift : {L : Type 0} {slots : L → List Slot} (m k : ℕ) (t : Tree L slots) → depth (lift m k t) ≡ depth t
  depth-lift m k (Rel i) = refl
  depth-lift m k (Node l ts) = omega (arith, depth_places-lift m k ts)

  depth_places-lift : {L : Type 0} {slots : L → List Slot} (m k : ℕ) {ss : List Slot} (ts : Places L slots ss) → depth_places (walk_places (lift_var m) k ts) ≡ depth_places ts
  depth_places-lift m k End = refl
  depth_places-lift m k (Child {n} t ts) = omega (arith, depth-lift m (deeper n k) t, depth_places-lift m k ts)
  depth_places-lift m k (Group us ts) = omega (arith, depth_trees-lift m k us, depth_places-lift m k ts)

  depth_trees-lift : {L : Type 0} {slots : L → List Slot} (m k : ℕ) (ts : Trees L slots) → depth_trees (walk_trees (lift_var m) k ts) ≡ depth_trees ts
  depth_trees-lift m k Done = refl
  depth_trees-lift m k (Next n t ts) = omega (arith, depth-lift m (deeper n k) t, depth_trees-lift m k ts)

mutual
  pub nodes-lift : {L : Type 0} {slots : L → List Slot} (m k : ℕ) (t : Tree L slots) → nodes (lift m k t) ≡ nodes t
  nodes-lift m k (Rel i) = refl
  nodes-lift m k (Node l ts) = omega (arith, nodes_places-lift m k ts)

  nodes_places-lift : {L : Type 0} {slots : L → List Slot} (m k : ℕ) {ss : List Slot} (ts : Places L slots ss) → nodes_places (walk_places (lift_var m) k ts) ≡ nodes_places ts
  nodes_places-lift m k End = refl
  nodes_places-lift m k (Child {n} t ts) = omega (arith, nodes-lift m (deeper n k) t, nodes_places-lift m k ts)
  nodes_places-lift m k (Group us ts) = omega (arith, nodes_trees-lift m k us, nodes_places-lift m k ts)

  nodes_trees-lift : {L : Type 0} {slots : L → List Slot} (m k : ℕ) (ts : Trees L slots) → nodes_trees (walk_trees (lift_var m) k ts) ≡ nodes_trees ts
  nodes_trees-lift m k Done = refl
  nodes_trees-lift m k (Next n t ts) = omega (arith, nodes-lift m (deeper n k) t, nodes_trees-lift m k ts)

above_var : (L : Type 0) (slots : L → List Slot) (m k i : ℕ) → above (lift_var {L = L} {slots = slots} m k i) ≤ i + 1 + m
above_var L slots m k i = grind (arith, common_steps)

mutual
  pub above-lift : {L : Type 0} {slots : L → List Slot} (m k : ℕ) (t : Tree L slots) → above (lift m k t) ≤ above t + m
  above-lift {L} {slots} m k (Rel i) = above_var L slots m k i
  above-lift m k (Node l ts) = above_places-lift m k ts

  above_places-lift : {L : Type 0} {slots : L → List Slot} (m k : ℕ) {ss : List Slot} (ts : Places L slots ss) → above_places (walk_places (lift_var m) k ts) ≤ above_places ts + m
  above_places-lift m k End = omega arith
  above_places-lift m k (Child {n} t ts) = omega (arith, above-lift m (deeper n k) t, above_places-lift m k ts)
  above_places-lift m k (Group us ts) = omega (arith, above_trees-lift m k us, above_places-lift m k ts)

  above_trees-lift : {L : Type 0} {slots : L → List Slot} (m k : ℕ) (ts : Trees L slots) → above_trees (walk_trees (lift_var m) k ts) ≤ above_trees ts + m
  above_trees-lift m k Done = omega arith
  above_trees-lift m k (Next n t ts) = omega (arith, above-lift m (deeper n k) t, above_trees-lift m k ts)

-- a lift adds its amount to a loose bound that is above its cutoff
abbrev pub Lifted : ℕ → ℕ → ℕ → ℕ → Type 0
Lifted m k b b' = (b ≤ k → b' ≡ b) × (k < b → b' ≡ b + m)

loose_var : (L : Type 0) (slots : L → List Slot) (m k i : ℕ) → Lifted m k (i + 1) (loose (lift_var {L = L} {slots = slots} m k i))
loose_var L slots m k i = (λ l. grind (arith, common_steps), λ l. grind (arith, common_steps))

lifted_none : (m k : ℕ) → Lifted m k 0 0
lifted_none m k = (λ _. refl, λ h. omega arith)

max_below : (m k b c b' c' : ℕ) → (b ≤ k → b' ≡ b) → (k < b → b' ≡ b + m) → (c ≤ k → c' ≡ c) → (k < c → c' ≡ c + m) → max b c ≤ k → max b' c' ≡ max b c
max_below m k b c b' c' e f g h l = grind arith

max_above : (m k b c b' c' : ℕ) → (b ≤ k → b' ≡ b) → (k < b → b' ≡ b + m) → (c ≤ k → c' ≡ c) → (k < c → c' ≡ c + m) → k < max b c → max b' c' ≡ max b c + m
max_above m k b c b' c' e f g h l = grind arith

lifted_max : (m k b c b' c' : ℕ) → Lifted m k b b' → Lifted m k c c' → Lifted m k (max b c) (max b' c')
lifted_max m k b c b' c' h g = (max_below m k b c b' c' h.0 h.1 g.0 g.1, max_above m k b c b' c' h.0 h.1 g.0 g.1)

under_below : (m k n d b b' : ℕ) → d ≡ k + n → (b ≤ d → b' ≡ b) → (d < b → b' ≡ b + m) → b - n ≤ k → b' - n ≡ b - n
under_below m k n d b b' e f g l = grind arith

under_above : (m k n d b b' : ℕ) → d ≡ k + n → (b ≤ d → b' ≡ b) → (d < b → b' ≡ b + m) → k < b - n → b' - n ≡ b - n + m
under_above m k n d b b' e f g l = grind arith

lifted_under : (m k n b b' : ℕ) → Lifted m (deeper n k) b b' → Lifted m k (b - n) (b' - n)
lifted_under m k n b b' h =
    (under_below m k n (deeper n k) b b' (deeper_is n k) h.0 h.1, under_above m k n (deeper n k) b b' (deeper_is n k) h.0 h.1)

pub lifted_at_most : (m n k b b' : ℕ) → (b ≤ k → b' ≡ b) → (k < b → b' ≡ b + m) → b ≤ n → b' ≤ n + m
lifted_at_most m n k b b' e f l = grind arith

mutual
  pub loose-lift : {L : Type 0} {slots : L → List Slot} (m k : ℕ) (t : Tree L slots) → Lifted m k (loose t) (loose (lift m k t))
  loose-lift {L} {slots} m k (Rel i) = loose_var L slots m k i
  loose-lift m k (Node l ts) = loose_places-lift m k ts

  loose_places-lift : {L : Type 0} {slots : L → List Slot} (m k : ℕ) {ss : List Slot} (ts : Places L slots ss) →
      Lifted m k (loose_places ts) (loose_places (walk_places (lift_var m) k ts))
  loose_places-lift m k End = lifted_none m k
  loose_places-lift m k (Child {n} t ts) =
      lifted_max m k _ _ _ _ (lifted_under m k n _ _ (loose-lift m (deeper n k) t)) (loose_places-lift m k ts)
  loose_places-lift m k (Group us ts) = lifted_max m k _ _ _ _ (loose_trees-lift m k us) (loose_places-lift m k ts)

  loose_trees-lift : {L : Type 0} {slots : L → List Slot} (m k : ℕ) (ts : Trees L slots) →
      Lifted m k (loose_trees ts) (loose_trees (walk_trees (lift_var m) k ts))
  loose_trees-lift m k Done = lifted_none m k
  loose_trees-lift m k (Next n t ts) =
      lifted_max m k _ _ _ _ (lifted_under m k n _ _ (loose-lift m (deeper n k) t)) (loose_trees-lift m k ts)
