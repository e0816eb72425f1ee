-- The tree that a node stands for.
use Rattle.std.specs.Prelude.{length}
use Rattle.trees.specs.Tree.{terms_of}
use Rattle.pc_terms.specs.Syntax as s
use Rattle.pc_terms.specs.Lists.{arms_of, types_of, bodies_of, rargs_of}
use Rattle.pc_terms.specs.declared.term.Node.{Node}
use Rattle.pc_terms.specs.declared.term.Node.TheVariants.{Rel, Sort, Prod, Lambda, LetIn, App, Const, Ind, Construct, Case, Fix}

abbrev pub tree_of : Node → s.Term
tree_of (Rel i) = s.Rel i
tree_of (Sort s') = s.SortT s'
tree_of (Prod a b) = s.Prod a b
tree_of (Lambda a b) = s.Lambda a b
tree_of (LetIn v a b) = s.LetIn v a b
tree_of (App f a) = s.App f a
tree_of (Const c) = s.Const c
tree_of (Ind f) = s.Ind f
tree_of (Construct f c) = s.Construct f c
tree_of (Case m) = s.Case m.family (terms_of m.params) m.binders m.ret m.scrut (arms_of m.branches)
tree_of (Fix ds i) = s.Fix i (rargs_of ds) (types_of ds) (bodies_of (length ds) ds)
