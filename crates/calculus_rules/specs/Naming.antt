-- What positivity and the guard ask of terms: which of them name the families of a block, or a parameter of one.
use Rattle.std.specs.Prelude.{ℕ, suc, ◌+◌, ◌==◌, ◌||◌, Bool, false, List, [], ◌∷◌}
use Rattle.trees.specs.Substitution.{deeper}
use Rattle.pc_terms.specs.declared.leaf.Name.{Name}
use Rattle.pc_terms.specs.Syntax.{Slot, Label, IndOf, ConstructOf, CaseOf, Term, Terms, Children, End, Child, Group, Done, Next, Rel, Node}
use Rattle.calculus_rules.specs.declared.target.Target.{Target}
use Rattle.calculus_rules.specs.declared.target.Target.TheVariants.{Families, Parameter}
use Rattle.calculus_rules.specs.Same.{same_names}

-- a term names a family of the block: as itself, by a constructor or by a match

abbrev pub names_label : Name → Label → Bool
names_label k (IndOf f) = same_names f.block k
names_label k (ConstructOf f c) = same_names f.block k
names_label k (CaseOf f n) = same_names f.block k
names_label k _ = false

abbrev mutual
  pub names_block : Name → Term → Bool
  names_block k (Rel i) = false
  names_block k (Node l ts) = names_label k l || names_block_children k ts

  pub names_block_children : Name → {ss : List Slot} → Children ss → Bool
  names_block_children k End = false
  names_block_children k (Child t ts) = names_block k t || names_block_children k ts
  names_block_children k (Group us ts) = names_block_terms k us || names_block_children k ts

  pub names_block_terms : Name → Terms → Bool
  names_block_terms k Done = false
  names_block_terms k (Next n t ts) = names_block k t || names_block_terms k ts

-- a variable, by its number as it is seen from outside of the term, stands somewhere in it
abbrev mutual
  pub has_variable : ℕ → Term → Bool
  has_variable i (Rel n) = n == i
  has_variable i (Node l ts) = has_variable_children i ts

  pub has_variable_children : ℕ → {ss : List Slot} → Children ss → Bool
  has_variable_children i End = false
  has_variable_children i (Child {n} t ts) = has_variable (deeper n i) t || has_variable_children i ts
  has_variable_children i (Group us ts) = has_variable_terms i us || has_variable_children i ts

  pub has_variable_terms : ℕ → Terms → Bool
  has_variable_terms i Done = false
  has_variable_terms i (Next n t ts) = has_variable (deeper n i) t || has_variable_terms i ts

-- a term under j variables more than the target's parameters names the target: the families of a block, or a parameter of one by its variable
abbrev pub names : Target → ℕ → Term → Bool
names (Families k) j t = names_block k t
names (Parameter k n v) j t = has_variable (v + j) t

abbrev pub some_names : Target → ℕ → List Term → Bool
some_names g j [] = false
some_names g j (t ∷ ts) = names g j t || some_names g j ts

-- a type of a telescope that begins under j variables more names the target
abbrev pub entries_name : Target → ℕ → List Term → Bool
entries_name g j [] = false
entries_name g j (A ∷ As) = names g j A || entries_name g (suc j) As
