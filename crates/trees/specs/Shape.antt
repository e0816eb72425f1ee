-- What holds of each node of a tree: of its label, and of how many variables each tree in its lists is under.
use Rattle.std.specs.Prelude.{ℕ, ◌≡◌, List, [], ◌∷◌}
use Rattle.trees.specs.Tree.{Slot, Tree, Rel, Node, Places, End, Child, Group, Trees, Done, Next}

-- by how many variables each tree of a list is under
abbrev pub binders_of : {L : Type 0} {slots : L → List Slot} → Trees L slots → List ℕ
binders_of Done = []
binders_of (Next n t ts) = n ∷ binders_of ts

-- the same for each list of a node
abbrev pub groups : {L : Type 0} {slots : L → List Slot} {ss : List Slot} → Places L slots ss → List (List ℕ)
groups End = []
groups (Child t ts) = groups ts
groups (Group us ts) = binders_of us ∷ groups ts

-- each node's label and lists have a property
abbrev mutual
  pub EachNode : {L : Type 0} {slots : L → List Slot} → (L → List (List ℕ) → Type 0) → Tree L slots → Type 0
  EachNode P (Rel i) = Unit {0}
  EachNode P (Node l ts) = P l (groups ts) × EachChild P ts

  pub EachChild : {L : Type 0} {slots : L → List Slot} → (L → List (List ℕ) → Type 0) → {ss : List Slot} → Places L slots ss → Type 0
  EachChild P End = Unit {0}
  EachChild P (Child t ts) = EachNode P t × EachChild P ts
  EachChild P (Group us ts) = EachTerm P us × EachChild P ts

  pub EachTerm : {L : Type 0} {slots : L → List Slot} → (L → List (List ℕ) → Type 0) → Trees L slots → Type 0
  EachTerm P Done = Unit {0}
  EachTerm P (Next n t ts) = EachNode P t × EachTerm P ts

-- each number is m
abbrev pub AreAll : ℕ → List ℕ → Type 0
AreAll m [] = Unit {0}
AreAll m (n ∷ ns) = (n ≡ m) × AreAll m ns
