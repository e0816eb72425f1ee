-- Texts of data that fits the types of a first-order set.
use Rattle.std.specs.Prelude.{◌≡◌, ℕ, List}
use Rattle.calculus_rules.specs.FirstOrder.{Data, FitsShapes}
use Rattle.first_order.specs.declared.shapes.Shape.{Shape}
use Rattle.first_order.specs.Searching.{members}
use Rattle.first_order.specs.Texts.{IsText, HasNames, Written, by_shapes, write}

-- the data's text by the names of constructors, which is what is written of it
pub record IsWritten (types : List Shape) (names : List (List ℕ)) (tree : Data) : Type 0 where
  pub line : List ℕ
  pub written : write (by_shapes types names) tree ≡ Written line
  pub is : IsText (by_shapes types names) 0 tree line

-- data that fits the first of the types has a text, where the names of all constructors are there
abbrev pub FittingDataIsWritten : Type 0
FittingDataIsWritten = (types : List Shape) (names : List (List ℕ)) → HasNames types names → (tree : Data) → FitsShapes (members types) 0 tree → IsWritten types names tree
