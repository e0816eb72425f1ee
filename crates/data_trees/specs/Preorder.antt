-- Trees in preorder, as lists of nodes, each with its constructor's number and its number of arguments.
use Rattle.std.specs.Prelude.{ℕ, zero, suc, ◌+◌, List, [], ◌∷◌}

-- so many trees, one behind the other
abbrev pub IsForest : ℕ → List (ℕ × ℕ) → Type 0
IsForest zero [] = Unit {0}
IsForest zero (x ∷ xs) = ⊥
IsForest (suc n) [] = ⊥
IsForest (suc n) (x ∷ xs) = IsForest (x.1 + n) xs

-- one tree
abbrev pub IsTree : List (ℕ × ℕ) → Type 0
IsTree xs = IsForest 1 xs
