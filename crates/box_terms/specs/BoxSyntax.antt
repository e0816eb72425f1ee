-- The language after erasure (lambda-box: Sozeau et al., "Coq Coq Correct!", POPL 2020, section on erasure), on the same trees: its
-- labels, the places of each, and its formers. Types are gone; a box stands where a type or a proof stood.
use Rattle.std.specs.Prelude.{ℕ, List, [], ◌∷◌}
use Rattle.trees.specs.Tree.{Slot, Under, Lists, Tree, Node, End, Child, Group, Trees}
use Rattle.pc_terms.specs.declared.leaf.Name.{Name}
use Rattle.pc_terms.specs.declared.leaf.FamilyId.{FamilyId}

pub data BoxLabel : Type 0 where
  BoxOf BLambdaOf BLetInOf BAppOf : BoxLabel
  BConstOf : Name → BoxLabel
  BConstructOf : FamilyId → ℕ → BoxLabel
  BCaseOf : FamilyId → BoxLabel
  BFixOf : ℕ → List ℕ → BoxLabel

abbrev pub box_slots : BoxLabel → List Slot
box_slots BoxOf = []
box_slots BLambdaOf = Under 1 ∷ []
box_slots BLetInOf = Under 0 ∷ Under 1 ∷ []
box_slots BAppOf = Under 0 ∷ Under 0 ∷ []
box_slots (BConstOf k) = []
box_slots (BConstructOf f c) = []
box_slots (BCaseOf f) = Under 0 ∷ Lists ∷ []
box_slots (BFixOf i rargs) = Lists ∷ []

abbrev pub BoxTerm : Type 0
BoxTerm = Tree BoxLabel box_slots

abbrev pub BoxTerms : Type 0
BoxTerms = Trees BoxLabel box_slots

pattern abbrev pub Box : BoxTerm
Box = Node BoxOf End

pattern abbrev pub BLambda : BoxTerm → BoxTerm
BLambda b = Node BLambdaOf (Child b End)

pattern abbrev pub BLetIn : BoxTerm → BoxTerm → BoxTerm
BLetIn b t = Node BLetInOf (Child b (Child t End))

pattern abbrev pub BApp : BoxTerm → BoxTerm → BoxTerm
BApp f a = Node BAppOf (Child f (Child a End))

pattern abbrev pub BConst : Name → BoxTerm
BConst k = Node (BConstOf k) End

pattern abbrev pub BConstruct : FamilyId → ℕ → BoxTerm
BConstruct f c = Node (BConstructOf f c) End

pattern abbrev pub BCase : FamilyId → BoxTerm → BoxTerms → BoxTerm
BCase f s bs = Node (BCaseOf f) (Child s (Group bs End))

pattern abbrev pub BFix : ℕ → List ℕ → BoxTerms → BoxTerm
BFix i rargs bodies = Node (BFixOf i rargs) (Group bodies End)
