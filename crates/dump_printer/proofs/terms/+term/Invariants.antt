use Rattle.std.proofs.Common.{◌≡◌, ◌+◌, ◌*◌, max, List, drop, false}
use Rattle.sexp_reader.specs.Text.{Text}
use Rattle.trees.specs.Tree.{terms_of}
use Rattle.trees.specs.Measures.{depth, depth_trees}
use Rattle.pc_terms.specs.View.{tree_of}
use Rattle.pc_terms.specs.Lists.{arms_of, depth_defs}
use Rattle.dump_printer.specs.Writing.{Start, IsOn}
use Rattle.dump_printer.specs.CanonicalTerms.{each}
use Rattle.dump_printer.specs.Cut.{cut}
use Rattle.dump_printer.specs.TermLists.{arm, definition}
use Rattle.dump_printer.proofs.terms.+term.Given as goal

abbrev pub decreases-write_cut : goal.decreases-write_cut
decreases-write_cut g l = 8 * depth l.t.now + 1

abbrev pub decreases-write_node : goal.decreases-write_node
decreases-write_node g l = 8 * depth (tree_of l.node.now)

abbrev pub decreases-write_binder : goal.decreases-write_binder
decreases-write_binder g l = 8 * depth l.first.now + 2

abbrev pub decreases-write_run : goal.decreases-write_run
decreases-write_run g l = 8 * depth l.t.now + 2

abbrev pub decreases-write_match : goal.decreases-write_match
decreases-write_match g l = 8 * max (depth_trees (terms_of l.m.now.params)) (max (depth l.m.now.ret) (max (depth l.m.now.scrut) (depth_trees (arms_of l.m.now.branches)))) + 7

abbrev pub decreases-write_predicate : goal.decreases-write_predicate
decreases-write_predicate g l = 8 * depth l.ret.now + 5

abbrev pub decreases-write_parameters : goal.decreases-write_parameters
decreases-write_parameters g l = 8 * depth_trees (terms_of l.list.now) + 5

abbrev pub decreases-write_branches : goal.decreases-write_branches
decreases-write_branches g l = 8 * depth_trees (arms_of l.branches.now) + 5

abbrev pub decreases-write_branch : goal.decreases-write_branch
decreases-write_branch g l = 8 * depth l.b.now.body + 3

abbrev pub decreases-write_fix : goal.decreases-write_fix
decreases-write_fix g l = 8 * depth_defs l.defs.now + 7

abbrev pub decreases-write_definitions : goal.decreases-write_definitions
decreases-write_definitions g l = 8 * depth_defs l.defs.now + 5

abbrev pub decreases-write_definition : goal.decreases-write_definition
decreases-write_definition g l = 8 * max (depth l.d.now.ty) (depth l.d.now.body) + 3

abbrev pub invariant-write_parameters-loop-t : goal.invariant-write_parameters-loop-t
invariant-write_parameters-loop-t g l = record {
  items : l.t-items ≡ l.list;
  goes : (s : Start) (more : List Text) → IsOn s (g.K.Sink.taken l.fn.out) (g.K.Sink.faults l.fn.out) l.fn.at (each (cut l.room false l.env.names l.env.level_names) l.list more) →
      IsOn s (g.K.Sink.taken l.out) (g.K.Sink.faults l.out) l.at (each (cut l.room false l.env.names l.env.level_names) (drop l.t-index l.t-items) more);
}

abbrev pub invariant-write_branches-loop-b : goal.invariant-write_branches-loop-b
invariant-write_branches-loop-b g l = record {
  items : l.b-items ≡ l.branches;
  goes : (s : Start) (more : List Text) → IsOn s (g.K.Sink.taken l.fn.out) (g.K.Sink.faults l.fn.out) l.fn.at (each (arm l.room l.env.names l.env.level_names) l.branches more) →
      IsOn s (g.K.Sink.taken l.out) (g.K.Sink.faults l.out) l.at (each (arm l.room l.env.names l.env.level_names) (drop l.b-index l.b-items) more);
}

abbrev pub invariant-write_definitions-loop-d : goal.invariant-write_definitions-loop-d
invariant-write_definitions-loop-d g l = record {
  items : l.d-items ≡ l.defs;
  goes : (s : Start) (more : List Text) → IsOn s (g.K.Sink.taken l.fn.out) (g.K.Sink.faults l.fn.out) l.fn.at (each (definition l.room l.env.names l.env.level_names) l.defs more) →
      IsOn s (g.K.Sink.taken l.out) (g.K.Sink.faults l.out) l.at (each (definition l.room l.env.names l.env.level_names) (drop l.d-index l.d-items) more);
}
