-- What holds of all variables, or of all labels, of a tree.
use Rattle.std.specs.Prelude.{ℕ, ◌+◌, ◌<◌, List, [], ◌∷◌}
use Rattle.trees.specs.Tree.{Slot, Tree, Rel, Node, Places, End, Child, Group, Trees, Done, Next}

-- closed below k: each variable's number, less the binders that it is under, is below k
abbrev mutual
  pub Closed : {L : Type 0} {slots : L → List Slot} → ℕ → Tree L slots → Type 0
  Closed k (Rel i) = i < k
  Closed k (Node l ts) = ClosedChildren k ts

  pub ClosedChildren : {L : Type 0} {slots : L → List Slot} → ℕ → {ss : List Slot} → Places L slots ss → Type 0
  ClosedChildren k End = Unit {0}
  ClosedChildren k (Child {n} t ts) = Closed (n + k) t × ClosedChildren k ts
  ClosedChildren k (Group us ts) = ClosedTerms k us × ClosedChildren k ts

  pub ClosedTerms : {L : Type 0} {slots : L → List Slot} → ℕ → Trees L slots → Type 0
  ClosedTerms k Done = Unit {0}
  ClosedTerms k (Next n t ts) = Closed (n + k) t × ClosedTerms k ts

-- each tree of a list is closed below k
abbrev pub ClosedEach : {L : Type 0} {slots : L → List Slot} → ℕ → List (Tree L slots) → Type 0
ClosedEach k [] = Unit {0}
ClosedEach k (t ∷ ts) = Closed k t × ClosedEach k ts

-- each label has a property
abbrev mutual
  pub Every : {L : Type 0} {slots : L → List Slot} → (L → Type 0) → Tree L slots → Type 0
  Every Q (Rel i) = Unit {0}
  Every Q (Node l ts) = Q l × EveryChild Q ts

  pub EveryChild : {L : Type 0} {slots : L → List Slot} → (L → Type 0) → {ss : List Slot} → Places L slots ss → Type 0
  EveryChild Q End = Unit {0}
  EveryChild Q (Child t ts) = Every Q t × EveryChild Q ts
  EveryChild Q (Group us ts) = EveryTerm Q us × EveryChild Q ts

  pub EveryTerm : {L : Type 0} {slots : L → List Slot} → (L → Type 0) → Trees L slots → Type 0
  EveryTerm Q Done = Unit {0}
  EveryTerm Q (Next n t ts) = Every Q t × EveryTerm Q ts
