-- Trees with variables. A language is a type of labels, with the places of each.
-- A variable is a de Bruijn index: the innermost binder's is 0.
use Rattle.std.specs.Prelude.{ℕ, zero, suc, List, [], ◌∷◌, Option, Some, None}

-- a place of a node: for a child under n more variables, or for a list of children
pub data Slot : Type 0 where
  Under : ℕ → Slot
  Lists : Slot

mutual
  pub data Tree (L : Type 0) (slots : L → List Slot) : Type 0 where
    Rel : ℕ → Tree L slots
    Node : (l : L) → Places L slots (slots l) → Tree L slots

  -- the children of a node
  pub data Places (L : Type 0) (slots : L → List Slot) : List Slot → Type 0 where
    End : Places L slots []
    Child : {n : ℕ} {ss : List Slot} → Tree L slots → Places L slots ss → Places L slots (Under n ∷ ss)
    Group : {ss : List Slot} → Trees L slots → Places L slots ss → Places L slots (Lists ∷ ss)

  -- a list of trees, each under as many variables as its number says
  pub data Trees (L : Type 0) (slots : L → List Slot) : Type 0 where
    Done : Trees L slots
    Next : ℕ → Tree L slots → Trees L slots → Trees L slots

-- a list of terms under no variable
abbrev pub terms_of : {L : Type 0} {slots : L → List Slot} → List (Tree L slots) → Trees L slots
terms_of [] = Done
terms_of (t ∷ xs) = Next 0 t (terms_of xs)

-- the terms of a list, without their numbers of variables
abbrev pub list_of : {L : Type 0} {slots : L → List Slot} → Trees L slots → List (Tree L slots)
list_of Done = []
list_of (Next n t ts) = t ∷ list_of ts

abbrev pub number : {L : Type 0} {slots : L → List Slot} → Trees L slots → ℕ
number Done = 0
number (Next n t ts) = suc (number ts)

-- term i, with the number of variables that it is under
abbrev pub term_at : {L : Type 0} {slots : L → List Slot} → Trees L slots → ℕ → Option (ℕ × Tree L slots)
term_at Done i = None
term_at (Next n t ts) zero = Some (n, t)
term_at (Next n t ts) (suc i) = term_at ts i
