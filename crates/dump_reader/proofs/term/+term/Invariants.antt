use Rattle.std.proofs.Common.{◌+◌, ◌*◌, take, map}
use Rattle.dump_grammar.specs.Named.{App, terms_of, branches_of, defs_of, depth, depth_terms, depth_branches, depth_defs}
use Rattle.dump_parser.specs.Tree.{named, named_match, named_branch, named_def, applied}
use Rattle.dump_parser.specs.declared.tree.Node.TheVariants as nodes
use Rattle.dump_reader.specs.Made.{IsTerm, AreTerms, AreBranches, AreDefs}
use Rattle.dump_reader.proofs.term.+term.Given as goal

abbrev pub decreases-term : goal.decreases-term
decreases-term l = 3 * depth l.tree.now + 2

abbrev pub decreases-run : goal.decreases-run
decreases-run l = 3 * depth (named (nodes.App l.function.now l.first.now l.more.now)) + 1

abbrev pub decreases-cast : goal.decreases-cast
decreases-cast l = 3 * depth (named (nodes.Cast l.subject.now l.ty.now)) + 1

abbrev pub decreases-let_in : goal.decreases-let_in
decreases-let_in l = 3 * depth (named (nodes.LetIn l.value.now l.ty.now l.body.now)) + 1

abbrev pub decreases-fixpoint : goal.decreases-fixpoint
decreases-fixpoint l = 3 * depth (named (nodes.Fix l.defs.now l.index)) + 1

abbrev pub decreases-case : goal.decreases-case
decreases-case l = 3 * depth (named_match l.m.now) + 1

abbrev pub decreases-terms : goal.decreases-terms
decreases-terms l = 3 * depth_terms (terms_of l.trees.now) + 3

abbrev pub decreases-branches : goal.decreases-branches
decreases-branches l = 3 * depth_branches (branches_of (map named_branch l.trees.now)) + 3

abbrev pub decreases-definitions : goal.decreases-definitions
decreases-definitions l = 3 * depth_defs (defs_of (map named_def l.trees.now)) + 3

abbrev pub invariant-run-loop-tree : goal.invariant-run-loop-tree
invariant-run-loop-tree l = IsTerm (applied (App l.fn.function l.fn.first) (take l.tree-index l.fn.more.items)) l.fn.tables l.tables l.whole

abbrev pub invariant-terms-loop-tree : goal.invariant-terms-loop-tree
invariant-terms-loop-tree l = AreTerms (take l.tree-index l.trees) l.fn.tables l.tables l.items.items

abbrev pub invariant-branches-loop-branch : goal.invariant-branches-loop-branch
invariant-branches-loop-branch l = AreBranches (take l.branch-index l.trees) l.fn.tables l.tables l.items.items

abbrev pub invariant-definitions-loop-def : goal.invariant-definitions-loop-def
invariant-definitions-loop-def l = AreDefs (take l.def-index l.trees) l.fn.tables l.tables l.items.items
