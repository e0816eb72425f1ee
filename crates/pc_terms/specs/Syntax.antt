-- The source language, PCUIC (Sozeau et al., "Coq Coq Correct!", POPL 2020): its labels, the places of each, and its formers.
use Rattle.std.specs.Prelude.{ℕ, zero, suc, ◌<◌, List, [], ◌∷◌, ◌++◌, length}
pub use Rattle.trees.specs.Tree.{Slot, Under, Lists, Tree, Rel, Node, Places, End, Child, Group, Trees, Done, Next, terms_of, list_of, number, term_at}
pub use Rattle.trees.specs.Substitution.{lift, subst, subst_list}
pub use Rattle.trees.specs.Parallel.{up, ups, rename, rename_children, rename_terms, over, overs, substitute, substitute_children, substitute_terms, shift, first, put, put_all}
pub use Rattle.trees.specs.Closed.{Closed, ClosedChildren, ClosedTerms, ClosedEach, Every, EveryChild, EveryTerm}
use Rattle.pc_terms.specs.declared.leaf.Name.{Name}
use Rattle.pc_terms.specs.declared.leaf.FamilyId.{FamilyId}
use Rattle.universe_levels.specs.declared.sort.Sort.{Sort}

-- what a node is, but for its children
pub data Label : Type 0 where
  SortOf : Sort → Label
  ProdOf LambdaOf LetInOf AppOf : Label
  ConstOf : Name → Label
  IndOf : FamilyId → Label
  ConstructOf : FamilyId → ℕ → Label
  CaseOf : FamilyId → ℕ → Label
  FixOf : ℕ → List ℕ → Label

-- the places of a node
abbrev pub slots : Label → List Slot
slots (SortOf s) = []
slots ProdOf = Under 0 ∷ Under 1 ∷ []
slots LambdaOf = Under 0 ∷ Under 1 ∷ []
slots LetInOf = Under 0 ∷ Under 0 ∷ Under 1 ∷ []
slots AppOf = Under 0 ∷ Under 0 ∷ []
slots (ConstOf c) = []
slots (IndOf f) = []
slots (ConstructOf f c) = []
slots (CaseOf f n) = Lists ∷ Under n ∷ Under 0 ∷ Lists ∷ []
slots (FixOf i rargs) = Lists ∷ Lists ∷ []

abbrev pub Term : Type 0
Term = Tree Label slots

abbrev pub Terms : Type 0
Terms = Trees Label slots

abbrev pub Children : List Slot → Type 0
Children = Places Label slots

-- the formers

pattern abbrev pub SortT : Sort → Term
SortT s = Node (SortOf s) End

pattern abbrev pub Prod : Term → Term → Term
Prod A B = Node ProdOf (Child A (Child B End))

pattern abbrev pub Lambda : Term → Term → Term
Lambda A b = Node LambdaOf (Child A (Child b End))

-- the value, its type and the body
pattern abbrev pub LetIn : Term → Term → Term → Term
LetIn b B t = Node LetInOf (Child b (Child B (Child t End)))

pattern abbrev pub App : Term → Term → Term
App f a = Node AppOf (Child f (Child a End))

pattern abbrev pub Const : Name → Term
Const c = Node (ConstOf c) End

pattern abbrev pub Ind : FamilyId → Term
Ind f = Node (IndOf f) End

-- the family and the constructor's place in it
pattern abbrev pub Construct : FamilyId → ℕ → Term
Construct f c = Node (ConstructOf f c) End

-- the family, its parameters, the number of the predicate's variables, the predicate, the scrutinee, and the branches, each under
-- its own variables
pattern abbrev pub Case : FamilyId → Terms → ℕ → Term → Term → Terms → Term
Case f ps n ret s bs = Node (CaseOf f n) (Group ps (Child ret (Child s (Group bs End))))

-- definition i; the recursive arguments, the types, and the bodies, each under all definitions
pattern abbrev pub Fix : ℕ → List ℕ → Terms → Terms → Term
Fix i rargs types bodies = Node (FixOf i rargs) (Group types (Group bodies End))

-- a term applied to a list of arguments, the first innermost
abbrev pub apply : Term → List Term → Term
apply f [] = f
apply f (a ∷ xs) = apply (App f a) xs

-- the m innermost variables, outermost first
abbrev pub variables : ℕ → List Term
variables zero = []
variables (suc m) = Rel m ∷ variables m

-- the head of a term, and its arguments in order
abbrev pub head : Term → Term
head (App f a) = head f
head t = t

abbrev pub args : Term → List Term
args (App f a) = args f ++ a ∷ []
args t = []

-- the definition that a fixpoint names is there
abbrev pub HasIndex : Term → Type 0
HasIndex (Fix i rargs types bodies) = i < length rargs
HasIndex _ = Unit {0}
