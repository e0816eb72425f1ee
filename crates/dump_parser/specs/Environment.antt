-- What the parts of an environment mean, in the words of the grammar, and the values that they leave.
use Rattle.std.specs.Prelude.{List, [], ◌∷◌, ◌++◌, map, Option, Some, None}
use Rattle.dump_grammar.specs.Named as g
use Rattle.dump_grammar.specs.Table.{Value, VName, VSort, VTerm, VNone, VTypes, VCtors, VFamilies, VNames, VConstraints, act, AddConstant, AddBlock, Item, IOpen, IWord, IVersion, ILevels, IList, IDecls, Constraints, Do, NoNames, NoConstraints, opened}
use Rattle.dump_grammar.specs.declared.keyword.Keyword.TheVariants as words
use Rattle.dump_grammar.specs.declared.keyword.Opening.TheVariants as openings
use Rattle.dump_parser.specs.declared.environment.Relation.{Relation}
use Rattle.dump_parser.specs.declared.environment.Relation.TheVariants as relations
use Rattle.dump_parser.specs.declared.environment.ConstraintTree.{ConstraintTree}
use Rattle.dump_parser.specs.declared.environment.CtorTree.{CtorTree}
use Rattle.dump_parser.specs.declared.environment.FamilyTree.{FamilyTree}
use Rattle.dump_parser.specs.declared.environment.DeclTree.{DeclTree}
use Rattle.dump_parser.specs.declared.environment.DeclTree.TheVariants as decls
use Rattle.dump_parser.specs.declared.environment.HeadTree.{HeadTree}
use Rattle.dump_parser.specs.Tree.{named_sort}

abbrev pub named_relation : Relation → g.NamedComparison
named_relation relations.Less = g.Less
named_relation relations.AtMost = g.AtMost
named_relation relations.Equal = g.Equal

abbrev pub comparison : Option Relation → Option g.NamedComparison
comparison None = None
comparison (Some r) = Some (named_relation r)

abbrev pub named_constraint : ConstraintTree → g.NamedConstraint
named_constraint c = record { left = c.left.now; relation = named_relation c.relation; right = c.right.now }

abbrev pub named_ctor : CtorTree → g.NamedCtor
named_ctor c = record { name = c.name.now; args = c.args.items; result = c.result.items }

abbrev pub named_family : FamilyTree → g.NamedFamily
named_family f = record { name = f.name.now; sort = named_sort f.sort; indices = f.indices.items; ctors = map named_ctor f.ctors.items }

abbrev pub named_decl : DeclTree → g.NamedDecl
named_decl (decls.Constant k ty body) = g.Constant k.now ty body
named_decl (decls.Block k params families) = g.Block k.now params.items (map named_family families.items)

-- the values that a family leaves, the newest first
abbrev pub family_values : FamilyTree → List Value
family_values f = VCtors (map named_ctor f.ctors.items) ∷ VTypes f.indices.items ∷ VSort (named_sort f.sort) ∷ VName f.name.now ∷ []

abbrev pub body_value : Option g.Named → Value
body_value None = VNone
body_value (Some t) = VTerm t

-- the values once a declaration was read
abbrev pub declared : DeclTree → List Value → List Value
declared (decls.Constant k ty body) vs = act AddConstant (body_value body ∷ VTerm ty ∷ VName k.now ∷ vs)
declared (decls.Block k params families) vs = act AddBlock (VFamilies (map named_family families.items) ∷ VTypes params.items ∷ VName k.now ∷ vs)

-- the declarations with the one that was read, if there was one
abbrev pub with_next : List g.NamedDecl → Option DeclTree → List g.NamedDecl
with_next ds None = ds
with_next ds (Some d) = ds ++ named_decl d ∷ []

-- what follows a declaration: another one or main; and where there was none, what follows the word of main
abbrev pub behind : Option DeclTree → List Item
behind None = opened openings.Main
behind (Some d) = IDecls ∷ []

-- the items from the start of an environment to its constraints
abbrev pub head_items : List Item
head_items = IOpen ∷ IWord words.Env ∷ IVersion ∷ IOpen ∷ IWord words.Levels ∷ Do NoNames ILevels ∷ IOpen ∷ IWord words.Constraints ∷ Do NoConstraints (IList Constraints) ∷ []

-- the values of the levels and the constraints
abbrev pub head_values : HeadTree → List Value
head_values h = VConstraints (map named_constraint h.constraints.items) ∷ VNames (map (λ a. a.now) h.levels.items) ∷ []
