-- Whether two terms are one tree, as a test.
use Rattle.std.specs.Prelude.{ℕ, ◌==◌, ◌&&◌, Bool, true, false, List, [], ◌∷◌}
use Rattle.universe_levels.specs.declared.level.LevelExpr.{LevelExpr}
use Rattle.universe_levels.specs.declared.sort.Sort.{Sort}
use Rattle.universe_levels.specs.declared.sort.Sort.TheVariants.{Prop, Of}
use Rattle.pc_terms.specs.declared.leaf.Name.{Name}
use Rattle.pc_terms.specs.declared.leaf.FamilyId.{FamilyId}
use Rattle.pc_terms.specs.Syntax.{Slot, Term, Terms, Children, End, Child, Group, Done, Next, Rel, Node, Label, SortOf, ProdOf, LambdaOf, LetInOf, AppOf, ConstOf, IndOf, ConstructOf, CaseOf, FixOf}

abbrev pub same_numbers : List ℕ → List ℕ → Bool
same_numbers [] [] = true
same_numbers (m ∷ ms) (n ∷ ns) = (m == n) && same_numbers ms ns
same_numbers _ _ = false

abbrev pub same_parts : List LevelExpr → List LevelExpr → Bool
same_parts [] [] = true
same_parts (p ∷ ps) (q ∷ qs) = (p.level.0 == q.level.0) && ((p.add == q.add) && same_parts ps qs)
same_parts _ _ = false

abbrev pub same_sorts : Sort → Sort → Bool
same_sorts Prop Prop = true
same_sorts (Of u) (Of w) = same_parts u w
same_sorts _ _ = false

abbrev pub same_names : Name → Name → Bool
same_names k l = k.0 == l.0

abbrev pub same_families : FamilyId → FamilyId → Bool
same_families f g = same_names f.block g.block && (f.family == g.family)

abbrev pub same_labels : Label → Label → Bool
same_labels (SortOf s) (SortOf s') = same_sorts s s'
same_labels ProdOf ProdOf = true
same_labels LambdaOf LambdaOf = true
same_labels LetInOf LetInOf = true
same_labels AppOf AppOf = true
same_labels (ConstOf k) (ConstOf l) = same_names k l
same_labels (IndOf f) (IndOf g) = same_families f g
same_labels (ConstructOf f c) (ConstructOf g d) = same_families f g && (c == d)
same_labels (CaseOf f n) (CaseOf g m) = same_families f g && (n == m)
same_labels (FixOf i rargs) (FixOf j rargs') = (i == j) && same_numbers rargs rargs'
same_labels _ _ = false

unfoldable mutual
  pub same : Term → Term → Bool
  same (Rel i) (Rel j) = i == j
  same (Node l ts) (Node m us) = same_labels l m && same_children ts us
  same _ _ = false

  pub same_children : {ss rr : List Slot} → Children ss → Children rr → Bool
  same_children End End = true
  same_children (Child t ts) (Child u us) = same t u && same_children ts us
  same_children (Group ps ts) (Group qs us) = same_terms ps qs && same_children ts us
  same_children _ _ = false

  pub same_terms : Terms → Terms → Bool
  same_terms Done Done = true
  same_terms (Next n t ts) (Next m u us) = (n == m) && (same t u && same_terms ts us)
  same_terms _ _ = false
