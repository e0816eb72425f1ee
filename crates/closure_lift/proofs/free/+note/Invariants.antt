use Rattle.std.proofs.Common.{◌≡◌, ◌++◌, drop}
use Rattle.anf_convert.specs.Anf.{block_of, tail_of}
use Rattle.anf_convert.specs.AnfView.{seen, bindings_of, branches_of, defs_of}
use Rattle.anf_convert.specs.AnfWeight.{binding_weight, block_weight, branches_weight, defs_weight}
use Rattle.closure_lift.specs.FreeVariables.{free_block, free_branches, free_defs, notes_block, notes_branches, notes_defs}
use Rattle.closure_lift.proofs.free.+note.Given as goal

abbrev pub decreases-note_op : goal.decreases-note_op
decreases-note_op l = binding_weight (seen l.op.now)

abbrev pub decreases-note_block : goal.decreases-note_block
decreases-note_block l = block_weight l.block.now

abbrev pub decreases-note_branches : goal.decreases-note_branches
decreases-note_branches l = branches_weight l.branches.now

abbrev pub decreases-note_defs : goal.decreases-note_defs
decreases-note_defs l = defs_weight l.defs.now

abbrev pub invariant-note_block-loop-i : goal.invariant-note_block-loop-i
invariant-note_block-loop-i l = record {
  names : l.names.items ++ free_block l.under (block_of (bindings_of (drop l.i l.ops)) (tail_of (seen l.block-inside.tail))) ≡ l.initial.names.items ++ free_block l.n (block_of (bindings_of l.ops) (tail_of (seen l.block-inside.tail)));
  notes : l.notes.items ++ notes_block l.under (block_of (bindings_of (drop l.i l.ops)) (tail_of (seen l.block-inside.tail))) ≡ l.initial.notes.items ++ notes_block l.n (block_of (bindings_of l.ops) (tail_of (seen l.block-inside.tail)));
}

abbrev pub invariant-note_branches-loop-i : goal.invariant-note_branches-loop-i
invariant-note_branches-loop-i l = record {
  names : l.names.items ++ free_branches l.n (branches_of (drop l.i l.items)) ≡ l.initial.names.items ++ free_branches l.n (branches_of l.items);
  notes : l.notes.items ++ notes_branches l.n (branches_of (drop l.i l.items)) ≡ l.initial.notes.items ++ notes_branches l.n (branches_of l.items);
}

abbrev pub invariant-note_defs-loop-i : goal.invariant-note_defs-loop-i
invariant-note_defs-loop-i l = record {
  names : l.names.items ++ free_defs l.n (defs_of (drop l.i l.items)) ≡ l.initial.names.items ++ free_defs l.n (defs_of l.items);
  notes : l.notes.items ++ notes_defs l.n (defs_of (drop l.i l.items)) ≡ l.initial.notes.items ++ notes_defs l.n (defs_of l.items);
}
