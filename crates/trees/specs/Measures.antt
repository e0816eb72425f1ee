-- Depth, number of nodes, loose bound and limits of a tree.
use Rattle.std.specs.Prelude.{ℕ, ◌+◌, ◌-◌, ◌<◌, ◌≤◌, ◌^◌, ◌⊎◌, max, List}
use Rattle.trees.specs.Tree.{Slot, Tree, Rel, Node, Places, End, Child, Group, Trees, Done, Next}

-- one for a tree with no subtrees, and else one more than its deepest subtree has
abbrev mutual
  pub depth : {L : Type 0} {slots : L → List Slot} → Tree L slots → ℕ
  depth (Rel i) = 1
  depth (Node l ts) = depth_places ts + 1

  pub depth_places : {L : Type 0} {slots : L → List Slot} {ss : List Slot} → Places L slots ss → ℕ
  depth_places End = 0
  depth_places (Child t ts) = max (depth t) (depth_places ts)
  depth_places (Group us ts) = max (depth_trees us) (depth_places ts)

  pub depth_trees : {L : Type 0} {slots : L → List Slot} → Trees L slots → ℕ
  depth_trees Done = 0
  depth_trees (Next n t ts) = max (depth t) (depth_trees ts)

-- the number of nodes, variables among them
abbrev mutual
  pub nodes : {L : Type 0} {slots : L → List Slot} → Tree L slots → ℕ
  nodes (Rel i) = 1
  nodes (Node l ts) = nodes_places ts + 1

  pub nodes_places : {L : Type 0} {slots : L → List Slot} {ss : List Slot} → Places L slots ss → ℕ
  nodes_places End = 0
  nodes_places (Child t ts) = nodes t + nodes_places ts
  nodes_places (Group us ts) = nodes_trees us + nodes_places ts

  pub nodes_trees : {L : Type 0} {slots : L → List Slot} → Trees L slots → ℕ
  nodes_trees Done = 0
  nodes_trees (Next n t ts) = nodes t + nodes_trees ts

-- the least k such that the tree is closed below k
abbrev mutual
  pub loose : {L : Type 0} {slots : L → List Slot} → Tree L slots → ℕ
  loose (Rel i) = i + 1
  loose (Node l ts) = loose_places ts

  pub loose_places : {L : Type 0} {slots : L → List Slot} {ss : List Slot} → Places L slots ss → ℕ
  loose_places End = 0
  loose_places (Child {n} t ts) = max (loose t - n) (loose_places ts)
  loose_places (Group us ts) = max (loose_trees us) (loose_places ts)

  pub loose_trees : {L : Type 0} {slots : L → List Slot} → Trees L slots → ℕ
  loose_trees Done = 0
  loose_trees (Next n t ts) = max (loose t - n) (loose_trees ts)

-- the least number above every variable's number, however many binders it is under
abbrev mutual
  pub above : {L : Type 0} {slots : L → List Slot} → Tree L slots → ℕ
  above (Rel i) = i + 1
  above (Node l ts) = above_places ts

  pub above_places : {L : Type 0} {slots : L → List Slot} {ss : List Slot} → Places L slots ss → ℕ
  above_places End = 0
  above_places (Child t ts) = max (above t) (above_places ts)
  above_places (Group us ts) = max (above_trees us) (above_places ts)

  pub above_trees : {L : Type 0} {slots : L → List Slot} → Trees L slots → ℕ
  above_trees Done = 0
  above_trees (Next n t ts) = max (above t) (above_trees ts)

-- the greatest depth of a tree in memory
abbrev pub depth_limit : ℕ
depth_limit = 2048

-- the limits of a tree in memory: that depth, and variable numbers of 32 bits
abbrev pub IsWithin : {L : Type 0} {slots : L → List Slot} → Tree L slots → Type 0
IsWithin t = (depth t ≤ depth_limit) × (above t ≤ 2 ^ 32)

abbrev pub IsBeyond : {L : Type 0} {slots : L → List Slot} → Tree L slots → Type 0
IsBeyond t = (depth_limit < depth t) ⊎ (2 ^ 32 < above t)

abbrev pub AreBeyond : {L : Type 0} {slots : L → List Slot} → Trees L slots → Type 0
AreBeyond ts = (depth_limit < depth_trees ts) ⊎ (2 ^ 32 < above_trees ts)
