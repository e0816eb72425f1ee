-- Renaming and substitution for all variables at once: the calculus that laws are proved in.
use Rattle.std.specs.Prelude.{ℕ, zero, suc, ◌+◌, List, [], ◌∷◌}
use Rattle.trees.specs.Tree.{Slot, Tree, Rel, Node, Places, End, Child, Group, Trees, Done, Next}

-- a renaming under one more variable, and under b more
abbrev pub up : (ℕ → ℕ) → ℕ → ℕ
up r zero = zero
up r (suc i) = suc (r i)

abbrev pub ups : ℕ → (ℕ → ℕ) → ℕ → ℕ
ups zero r = r
ups (suc b) r = up (ups b r)

abbrev mutual
  pub rename : {L : Type 0} {slots : L → List Slot} → (ℕ → ℕ) → Tree L slots → Tree L slots
  rename r (Rel i) = Rel (r i)
  rename r (Node l ts) = Node l (rename_children r ts)

  pub rename_children : {L : Type 0} {slots : L → List Slot} → (ℕ → ℕ) → {ss : List Slot} → Places L slots ss → Places L slots ss
  rename_children r End = End
  rename_children r (Child {n} t ts) = Child (rename (ups n r) t) (rename_children r ts)
  rename_children r (Group us ts) = Group (rename_terms r us) (rename_children r ts)

  pub rename_terms : {L : Type 0} {slots : L → List Slot} → (ℕ → ℕ) → Trees L slots → Trees L slots
  rename_terms r Done = Done
  rename_terms r (Next n t ts) = Next n (rename (ups n r) t) (rename_terms r ts)

-- a substitution under one more variable, and under b more
abbrev pub over : {L : Type 0} {slots : L → List Slot} → (ℕ → Tree L slots) → ℕ → Tree L slots
over s zero = Rel zero
over s (suc i) = rename suc (s i)

abbrev pub overs : {L : Type 0} {slots : L → List Slot} → ℕ → (ℕ → Tree L slots) → ℕ → Tree L slots
overs zero s = s
overs (suc b) s = over (overs b s)

abbrev mutual
  pub substitute : {L : Type 0} {slots : L → List Slot} → (ℕ → Tree L slots) → Tree L slots → Tree L slots
  substitute s (Rel i) = s i
  substitute s (Node l ts) = Node l (substitute_children s ts)

  pub substitute_children : {L : Type 0} {slots : L → List Slot} → (ℕ → Tree L slots) → {ss : List Slot} → Places L slots ss → Places L slots ss
  substitute_children s End = End
  substitute_children s (Child {n} t ts) = Child (substitute (overs n s) t) (substitute_children s ts)
  substitute_children s (Group us ts) = Group (substitute_terms s us) (substitute_children s ts)

  pub substitute_terms : {L : Type 0} {slots : L → List Slot} → (ℕ → Tree L slots) → Trees L slots → Trees L slots
  substitute_terms s Done = Done
  substitute_terms s (Next n t ts) = Next n (substitute (overs n s) t) (substitute_terms s ts)

-- the renaming that adds m to each variable that is k or more
abbrev pub shift : {L : Type 0} {slots : L → List Slot} → ℕ → ℕ → Tree L slots → Tree L slots
shift m k t = rename (ups k (λ i. m + i)) t

-- a for the innermost variable, and s for the others
abbrev pub first : {L : Type 0} {slots : L → List Slot} → Tree L slots → (ℕ → Tree L slots) → ℕ → Tree L slots
first a s zero = a
first a s (suc i) = s i

-- a put in for the innermost variable
abbrev pub put : {L : Type 0} {slots : L → List Slot} → Tree L slots → ℕ → Tree L slots
put a = first a Rel

-- the terms of a list for as many variables, the last one for the innermost; s for the others
abbrev pub put_all : {L : Type 0} {slots : L → List Slot} → List (Tree L slots) → (ℕ → Tree L slots) → ℕ → Tree L slots
put_all [] s = s
put_all (a ∷ xs) s = put_all xs (first a s)
