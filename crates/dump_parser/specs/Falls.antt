-- Each part of a term has a smaller depth than the term.
use Rattle.std.specs.Prelude.{◌+◌, ◌≤◌, List, [], ◌∷◌, map}
use Rattle.std.proofs.Common.{arith}
use Rattle.dump_grammar.specs.Named as g
use Rattle.dump_grammar.specs.Named.{Named, terms_of, branches_of, defs_of, depth, depth_terms, depth_branches, depth_defs}
use Rattle.dump_parser.specs.declared.tree.Branch.{Branch}
use Rattle.dump_parser.specs.declared.tree.Def.{Def}
use Rattle.dump_parser.specs.declared.tree.Node.{Node}
use Rattle.dump_parser.specs.declared.tree.Node.TheVariants as nodes
use Rattle.dump_parser.specs.declared.tree.Tree.TheDeep.{deep-Node, deep-Branch, deep-Def}
use Rattle.dump_parser.specs.Tree.{named, named_branch, named_def, applied}
use denote.Param.Weighed.{most}

pub most-terms : (ts : List Named) → most (λ t. depth t + 1) ts ≤ depth_terms (terms_of ts) + 1
unfolding depth
most-terms [] = omega arith
most-terms (t ∷ ts) = omega (arith, most-terms ts)

pub most-branches : (bs : List Branch) → most (λ b. deep-Branch b) bs ≤ depth_branches (branches_of (map named_branch bs)) + 1
unfolding depth
most-branches [] = omega arith
most-branches (b ∷ bs) = omega (arith, most-branches bs)

pub most-defs : (ds : List Def) → most (λ d. deep-Def d) ds ≤ depth_defs (defs_of (map named_def ds)) + 1
unfolding depth
most-defs [] = omega arith
most-defs (d ∷ ds) = omega (arith, most-defs ds)

pub head-applied : (f : Named) (ts : List Named) → depth f ≤ depth (applied f ts)
unfolding depth
head-applied f [] = omega arith
head-applied f (t ∷ ts) = omega (arith, head-applied (g.App f t) ts)

pub most-applied : (f : Named) (ts : List Named) → most (λ t. depth t + 1) ts ≤ depth (applied f ts)
unfolding depth
most-applied f [] = omega arith
most-applied f (t ∷ ts) = omega (arith, head-applied (g.App f t) ts, most-applied (g.App f t) ts)

pub falls : (n : Node) → deep-Node n ≤ depth (named n)
unfolding depth
falls (nodes.Rel n) = omega arith
falls (nodes.Sort s) = omega arith
falls (nodes.Prod a b) = omega arith
falls (nodes.Lambda a b) = omega arith
falls (nodes.LetIn a b c) = omega arith
falls (nodes.App f a more) = omega (arith, head-applied (g.App f a) more.items, most-applied (g.App f a) more.items)
falls (nodes.Const k) = omega arith
falls (nodes.Ind k n) = omega arith
falls (nodes.Construct k n c) = omega arith
falls (nodes.Case m) = omega (arith, most-terms m.value.params.items, most-branches m.value.branches.items)
falls (nodes.Fix ds i) = omega (arith, most-defs ds.items)
falls (nodes.Cast t ty) = omega arith
