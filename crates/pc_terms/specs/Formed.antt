-- Terms of the form that each term in memory has. Among all trees they are those in which a match's parameters stand under no variable of
-- their own, and a fixpoint has a type, under no variable, a body, under all its definitions, and a recursive argument for each
-- definition, and names one of them.
use Rattle.std.specs.Prelude.{ℕ, ◌≡◌, ◌<◌, List, ◌∷◌, length}
pub use Rattle.trees.specs.Shape.{binders_of, groups, EachNode, EachChild, EachTerm, AreAll}
use Rattle.pc_terms.specs.Syntax.{Label, CaseOf, FixOf, Term}

-- the lists of a node, by how many variables each term in them is under
abbrev pub HasLists : Label → List (List ℕ) → Type 0
HasLists (CaseOf f n) (ps ∷ gs) = AreAll 0 ps
HasLists (FixOf i rargs) (ts ∷ bs ∷ gs) =
    (length ts ≡ length rargs) × AreAll 0 ts × (length bs ≡ length rargs) × AreAll (length rargs) bs
HasLists l gs = Unit {0}

-- the definition that a fixpoint names is there
abbrev pub NamesDefinition : Label → Type 0
NamesDefinition (FixOf i rargs) = i < length rargs
NamesDefinition l = Unit {0}

abbrev pub HasForm : Label → List (List ℕ) → Type 0
HasForm l gs = HasLists l gs × NamesDefinition l

abbrev pub IsFormed : Term → Type 0
IsFormed t = EachNode HasForm t
