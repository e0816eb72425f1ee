-- Data: what a value of a first-order type is read as, for all languages.
use Rattle.std.specs.Prelude.{ℕ, List}

-- a tree of constructor numbers, without parameters, as the list of its nodes in preorder, each with its number of arguments
abbrev pub Data : Type 0
Data = List (ℕ × ℕ)
