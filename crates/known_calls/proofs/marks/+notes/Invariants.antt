use Rattle.std.proofs.Common.{◌≡◌, ◌+◌, ◌-◌, ◌*◌, ◌++◌, drop, reverse, replicate}
use Rattle.closure_lift.specs.LiftedView.{seen, branches_of}
use Rattle.closure_lift.specs.LiftedWeight.{block_weight, branches_weight, bound_weight}
use Rattle.known_calls.specs.KnownPlaces.{Never, block_reads}
use Rattle.known_calls.specs.KnownMarks.{also, block_marks, empties_read, empty_marks, head_marks, heads_read}
use Rattle.known_calls.proofs.KnownMarking.{past}
use Rattle.known_calls.proofs.marks.+notes.Given as goal

abbrev pub decreases-note_block : goal.decreases-note_block
decreases-note_block l = 4 * block_weight l.b.now

abbrev pub decreases-note_binding : goal.decreases-note_binding
decreases-note_binding l = 4 * bound_weight (seen l.op.now) + 2

abbrev pub decreases-note_op : goal.decreases-note_op
decreases-note_op l = 4 * bound_weight (seen l.op.now) + 1

abbrev pub decreases-note_branches : goal.decreases-note_branches
decreases-note_branches l = 4 * branches_weight l.bs.now + 1

abbrev pub decreases-note_heads : goal.decreases-note_heads
decreases-note_heads l = 4 * branches_weight (branches_of l.bs.now)

abbrev pub decreases-note_empties : goal.decreases-note_empties
decreases-note_empties l = 4 * branches_weight (branches_of l.bs.now)

abbrev pub decreases-note_head : goal.decreases-note_head
decreases-note_head l = 4 * block_weight l.b.now.body + 1

abbrev pub decreases-note_empty : goal.decreases-note_empty
decreases-note_empty l = 4 * block_weight l.b.now.body + 1

abbrev pub invariant-note_block-loop-k : goal.invariant-note_block-loop-k
invariant-note_block-loop-k l = record {
  noted : reverse l.notes.items ≡ also (λ i. block_reads i (past (l.n - l.k) l.b)) (replicate (l.n - l.k) Never ++ reverse l.fn.notes.items);
  marked : reverse l.marks.items ≡ block_marks (past (l.n - l.k) l.b) ++ reverse l.fn.marks.items;
}

abbrev pub invariant-note_heads-loop-k : goal.invariant-note_heads-loop-k
invariant-note_heads-loop-k l = record {
  noted : reverse l.notes.items ≡ also (λ i. heads_read i (branches_of (drop (l.n - l.k) l.bs))) (reverse l.initial.notes.items);
  marked : reverse l.marks.items ≡ head_marks (branches_of (drop (l.n - l.k) l.bs)) ++ reverse l.initial.marks.items;
}

abbrev pub invariant-note_empties-loop-k : goal.invariant-note_empties-loop-k
invariant-note_empties-loop-k l = record {
  noted : reverse l.notes.items ≡ also (λ i. empties_read i (branches_of (drop (l.n - l.k) l.bs))) (reverse l.initial.notes.items);
  marked : reverse l.marks.items ≡ empty_marks (branches_of (drop (l.n - l.k) l.bs)) ++ reverse l.initial.marks.items;
}
