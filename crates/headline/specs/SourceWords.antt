-- The numbers of a source by which the bounds on memory and on steps are told: its words, and the most constructors of one of its families.
use Rattle.std.specs.Prelude.{ℕ, ◌+◌, max, List, [], ◌∷◌, length, Some}
use Rattle.trees.specs.Tree.{Slot, Rel, Node, Places, End, Child, Group, Done, Next}
use Rattle.pc_terms.specs.Syntax.{Label, slots, Term, Terms}
use Rattle.calculus_rules.specs.declared.declaration.Constructor.{Constructor}
use Rattle.calculus_rules.specs.declared.declaration.Family.{Family}
use Rattle.calculus_rules.specs.declared.declaration.Kept.{Kept}
use Rattle.calculus_rules.specs.declared.declaration.Kept.TheVariants.{Constant, Block as Whole}
use Rattle.calculus_rules.specs.Environment.{Env}

-- the greatest number of binders that a place of a term is under
abbrev mutual
  pub binders_over : Term → ℕ
  binders_over (Rel i) = 0
  binders_over (Node l ts) = binders_over_places ts

  pub binders_over_places : {ss : List Slot} → Places Label slots ss → ℕ
  binders_over_places End = 0
  binders_over_places (Child {n} t ts) = max (n + binders_over t) (binders_over_places ts)
  binders_over_places (Group us ts) = max (binders_over_terms us) (binders_over_places ts)

  pub binders_over_terms : Terms → ℕ
  binders_over_terms Done = 0
  binders_over_terms (Next n t ts) = max (n + binders_over t) (binders_over_terms ts)

-- in the bodies of constants (types are gone when a module runs)
abbrev pub binders_in : List Kept → ℕ
binders_in [] = 0
binders_in (Constant k T (Some b) ∷ ds) = max (binders_over b) (binders_in ds)
binders_in (d ∷ ds) = binders_in ds

-- the greatest number of arguments of a constructor, and the greatest number of constructors of a family

abbrev pub most_arguments : List Constructor → ℕ
most_arguments [] = 0
most_arguments (C ∷ Cs) = max (length C.args) (most_arguments Cs)

abbrev pub most_in_families : List Family → ℕ
most_in_families [] = 0
most_in_families (F ∷ Fs) = max (most_arguments F.ctors) (most_in_families Fs)

abbrev pub most_in_blocks : List Kept → ℕ
most_in_blocks [] = 0
most_in_blocks (Whole B ∷ ds) = max (most_in_families B.families) (most_in_blocks ds)
most_in_blocks (d ∷ ds) = most_in_blocks ds

abbrev pub most_constructors : List Family → ℕ
most_constructors [] = 0
most_constructors (F ∷ Fs) = max (length F.ctors) (most_constructors Fs)

abbrev pub most_alternatives : List Kept → ℕ
most_alternatives [] = 0
most_alternatives (Whole B ∷ ds) = max (most_constructors B.families) (most_alternatives ds)
most_alternatives (d ∷ ds) = most_alternatives ds

-- W: no block of memory has more words, of those that a run of main makes
abbrev pub source_words : Env → Term → ℕ
source_words E main = 4 + max (binders_over main) (binders_in E.declarations) + most_in_blocks E.declarations

-- M: no match has more branches
abbrev pub source_branches : Env → ℕ
source_branches E = max 1 (most_alternatives E.declarations)
