-- What the parts of a tree mean, in the words of the grammar.
use Rattle.std.specs.Prelude.{◌≡◌, ℕ, ◌<◌, ◌≤◌, List, [], ◌∷◌, length, map}
use Rattle.dump_grammar.specs.Terms.{cast}
use Rattle.dump_grammar.specs.Named as g
use Rattle.dump_grammar.specs.Named.{Named, terms_of, branches_of, defs_of, depth}
use Rattle.dump_grammar.specs.Limits.{depth_limit}
use Rattle.dump_parser.specs.declared.tree.LevelPart.{LevelPart}
use Rattle.dump_parser.specs.declared.tree.SortTree.{SortTree}
use Rattle.dump_parser.specs.declared.tree.SortTree.TheVariants as sorts
use Rattle.dump_parser.specs.declared.tree.Branch.{Branch}
use Rattle.dump_parser.specs.declared.tree.Def.{Def}
use Rattle.dump_parser.specs.declared.tree.Match.{Match}
use Rattle.dump_grammar.specs.Table.{Value, VNumber, VName, VTerm, VTerms, VBranches}
use Rattle.dump_parser.specs.declared.tree.Node.{Node}
use Rattle.dump_parser.specs.declared.tree.Node.TheVariants as nodes

abbrev pub part_of : LevelPart → List ℕ × ℕ
part_of p = (p.level.now, p.add)

abbrev pub named_sort : SortTree → g.NamedSort
named_sort sorts.Prop = g.AProp
named_sort (sorts.Type p ps) = g.AType (part_of p ∷ map part_of ps.items)

abbrev pub named_branch : Branch → g.NamedBranch
named_branch b = record { binders = b.binders; body = b.body }

abbrev pub named_def : Def → g.NamedDef
named_def d = record { type = d.ty; body = d.body; rarg = d.rarg }

-- a term applied to arguments, from the first to the last
abbrev pub applied : Named → List Named → Named
applied f [] = f
applied f (a ∷ more) = applied (g.App f a) more

abbrev pub named_match : Match → Named
named_match m = g.Case m.block.now m.family (terms_of m.params.items) m.binders m.ret m.scrut (branches_of (map named_branch m.branches.items))

abbrev pub named : Node → Named
named (nodes.Rel n) = g.Rel n
named (nodes.Sort s) = g.Sort (named_sort s)
named (nodes.Prod a b) = g.Prod a b
named (nodes.Lambda a b) = g.Lambda a b
named (nodes.LetIn b a t) = g.LetIn b a t
named (nodes.App f a more) = applied (g.App f a) more.items
named (nodes.Const k) = g.Const k.now
named (nodes.Ind k n) = g.Ind k.now n
named (nodes.Construct k n c) = g.Construct k.now n c
named (nodes.Case m) = named_match m.value
named (nodes.Fix ds i) = g.Fix (defs_of (map named_def ds.items)) i
named (nodes.Cast t ty) = cast t ty

-- The index of a fixpoint is below the number of its definitions.
abbrev pub IsIndexed : Node → Type 0
IsIndexed (nodes.Fix ds i) = i < length ds.items
IsIndexed _ = Unit {0}

-- What a tree keeps of its node: its depth, within the limit, and that its index was tested.
pub record IsMeasured (d : ℕ) (n : Node) : Type 0 where
  pub depth_is : d ≡ depth (named n)
  pub within : d ≤ depth_limit
  pub indexed : IsIndexed n

-- The values that a match leaves before the bracket that closes it, the newest first.
abbrev pub match_values : Match → List Value
match_values m = VBranches (map named_branch m.branches.items) ∷ VTerm m.scrut ∷ VTerm m.ret ∷ VNumber m.binders ∷ VTerms m.params.items ∷ VNumber m.family ∷ VName m.block.now ∷ []
