-- What is made of each part of a tree.
use Rattle.std.specs.Prelude.{◌≡◌, ℕ, ◌≤◌, ◌^◌, List, ◌∷◌, map}
use Rattle.std.specs.Borrow.{Bor}
use Rattle.trees.specs.Tree.{terms_of}
use Rattle.trees.specs.Measures.{above, above_trees}
use Rattle.pc_terms.specs.Syntax as terms
use Rattle.pc_terms.specs.Lists.{arms_of, types_of, bodies_of}
use Rattle.pc_terms.specs.declared.term.Branch.{Branch as Arm}
use Rattle.pc_terms.specs.declared.term.Def.{Def as Definition}
use Rattle.dump_grammar.specs.Named.{Named}
use Rattle.dump_grammar.specs.Uses.{names, levels, each, names_of_ctor, levels_of_ctor, names_of_family, levels_of_family, names_of_decl, levels_of_decl}
use Rattle.universe_levels.specs.declared.level.Level.{Level}
use Rattle.universe_levels.specs.declared.constraint.Constraint.{Constraint}
use Rattle.universe_levels.specs.declared.level.LevelExpr.{LevelExpr}
use Rattle.dump_parser.specs.declared.tree.LevelPart.{LevelPart}
use Rattle.dump_parser.specs.declared.tree.Branch.{Branch}
use Rattle.dump_parser.specs.declared.tree.Def.{Def}
use Rattle.dump_parser.specs.declared.environment.ConstraintTree.{ConstraintTree}
use Rattle.dump_parser.specs.declared.environment.CtorTree.{CtorTree}
use Rattle.dump_parser.specs.declared.environment.FamilyTree.{FamilyTree}
use Rattle.dump_parser.specs.declared.environment.DeclTree.{DeclTree}
use Rattle.dump_parser.specs.Environment.{named_constraint, named_ctor, named_family, named_decl}
use Rattle.dump_reader.specs.declared.declaration.RawCtor.{RawCtor}
use Rattle.dump_reader.specs.declared.declaration.RawFamily.{RawFamily}
use Rattle.dump_reader.specs.declared.declaration.RawDecl.{RawDecl}
use Rattle.dump_reader.specs.NumberedEnvironment.{numbered_constraint, numbered_ctor, numbered_family, numbered_decl}
use Rattle.dump_reader.specs.declared.numbering.Tables.{Tables}
use Rattle.dump_reader.specs.Numbered.{level_number, numbered_term}
use Rattle.dump_reader.specs.Growth.{Uses, Numbers}

-- The term is that of the tree, and its variables are numbers of 32 bits.
pub record IsTerm (t : Named) (old new : Tables) (made : terms.Term) : Type 0 where
  pub numbers : Numbers (names t) (levels t) (λ ns ls. numbered_term ns ls t) old new made
  pub small : above made ≤ 2 ^ 32

-- each item of a list is what is made of it, in turn
abbrev pub NumbersEach : {X Y : Type 0} → (X → Uses) → (X → Uses) → (List (List ℕ) → List (List ℕ) → X → Y) → List X → Tables → Tables → List Y → Type 0
NumbersEach u v value xs old new made = Numbers (each u xs) (each v xs) (λ ns ls. map (value ns ls) xs) old new made

abbrev pub part_names : LevelPart → Uses
part_names p after = after

abbrev pub part_levels : LevelPart → Uses
part_levels p after = p.level.now ∷ after

abbrev pub numbered_part : (ns ls : List (List ℕ)) → LevelPart → LevelExpr
numbered_part ns ls p = record { level = level_number ls p.level.now; add = p.add }

pub record AreTerms (ts : List Named) (old new : Tables) (made : List terms.Term) : Type 0 where
  pub numbers : NumbersEach names levels numbered_term ts old new made
  pub small : above_trees (terms_of made) ≤ 2 ^ 32

abbrev pub branch_names : Branch → Uses
branch_names b after = names b.body after

abbrev pub branch_levels : Branch → Uses
branch_levels b after = levels b.body after

abbrev pub numbered_branch : (ns ls : List (List ℕ)) → Branch → Arm
numbered_branch ns ls b = record { binders = b.binders; body = numbered_term ns ls b.body }

pub record AreBranches (bs : List Branch) (old new : Tables) (made : List Arm) : Type 0 where
  pub numbers : NumbersEach branch_names branch_levels numbered_branch bs old new made
  pub small : above_trees (arms_of made) ≤ 2 ^ 32

abbrev pub def_names : Def → Uses
def_names d after = names d.ty (names d.body after)

abbrev pub def_levels : Def → Uses
def_levels d after = levels d.ty (levels d.body after)

abbrev pub numbered_def : (ns ls : List (List ℕ)) → Def → Definition
numbered_def ns ls d = record { ty = numbered_term ns ls d.ty; body = numbered_term ns ls d.body; rarg = d.rarg }

pub record AreDefs (ds : List Def) (old new : Tables) (made : List Definition) : Type 0 where
  pub numbers : NumbersEach def_names def_levels numbered_def ds old new made
  pub small_types : above_trees (types_of made) ≤ 2 ^ 32
  pub small_bodies : (m : ℕ) → above_trees (bodies_of m made) ≤ 2 ^ 32

-- ---- what stands around terms

abbrev pub level_names : Bor (List ℕ) → Uses
level_names a after = after

abbrev pub level_levels : Bor (List ℕ) → Uses
level_levels a after = a.now ∷ after

abbrev pub level_value : (ns ls : List (List ℕ)) → Bor (List ℕ) → Level
level_value ns ls a = level_number ls a.now

abbrev pub constraint_names : ConstraintTree → Uses
constraint_names c after = after

abbrev pub constraint_levels : ConstraintTree → Uses
constraint_levels c after = c.left.now ∷ c.right.now ∷ after

abbrev pub constraint_value : (ns ls : List (List ℕ)) → ConstraintTree → Constraint
constraint_value ns ls c = numbered_constraint ls (named_constraint c)

abbrev pub ctor_names : CtorTree → Uses
ctor_names c after = names_of_ctor (named_ctor c) after

abbrev pub ctor_levels : CtorTree → Uses
ctor_levels c after = levels_of_ctor (named_ctor c) after

abbrev pub ctor_value : (ns ls : List (List ℕ)) → CtorTree → RawCtor
ctor_value ns ls c = numbered_ctor ns ls (named_ctor c)

abbrev pub family_names : FamilyTree → Uses
family_names f after = names_of_family (named_family f) after

abbrev pub family_levels : FamilyTree → Uses
family_levels f after = levels_of_family (named_family f) after

abbrev pub family_value : (ns ls : List (List ℕ)) → FamilyTree → RawFamily
family_value ns ls f = numbered_family ns ls (named_family f)

abbrev pub decl_names : DeclTree → Uses
decl_names d after = names_of_decl (named_decl d) after

abbrev pub decl_levels : DeclTree → Uses
decl_levels d after = levels_of_decl (named_decl d) after

abbrev pub decl_value : (ns ls : List (List ℕ)) → DeclTree → RawDecl
decl_value ns ls d = numbered_decl ns ls (named_decl d)
