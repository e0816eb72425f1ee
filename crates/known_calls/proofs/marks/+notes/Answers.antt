use Rattle.std.proofs.Common.{rules, arith, ℕ, ◌*◌, ◌+◌, ◌-◌, ◌<◌, ◌≡◌, ◌∷◌, ◌++◌, [], List, length, get_or, refl, reverse, take, ap, sym, ◌∙◌}
use Rattle.std.proofs.lemmas.Result.{on_ok_weaker}
use Rattle.closure_lift.specs.Lifted.{tail_of, block_of}
use Rattle.closure_lift.specs.LiftedView.{seen, branches_of}
use Rattle.closure_lift.specs.declared.program.LiftedOp.{LiftedOp}
use Rattle.closure_lift.specs.LiftedWeight.{block_weight, branches_weight, bound_weight}
use Rattle.wasm_emit.proofs.Lighter.{op_lighter, tail_lighter, arm_lighter}
use Rattle.known_calls.specs.KnownPlaces.{Times, Never, More, names, block_reads, branches_read}
use Rattle.known_calls.specs.KnownMarks.{also, bound_reads, field_marks, empties_read, empty_marks, head_marks, heads_read}
use Rattle.known_calls.proofs.KnownMarking.{also_none, also_both, field_marked, heads_step, empties_step, head_marks_step, empty_marks_step, noted_init, marked_init, noted_more, marked_more, noted_end, marked_end, arms_noted_init, arms_marked_init, arms_noted_more, arms_marked_more, branches_noted, binders_gone, no_heads, no_empties}
use Rattle.known_calls.proofs.marks.+notes.Goals as goal

pub note_block-note_op-requires : goal.note_block-note_op-requires
note_block-note_op-requires t c =
    let d : 2 * bound_weight (seen c.b.inside.tail) + 1 < 2 * block_weight c.args.b.now = tail_lighter c.b.inside.bindings c.b.inside.tail c.args.b.now c.b.view_is in
    let e : 4 * bound_weight (seen c.b.inside.tail) + 1 < 4 * block_weight c.args.b.now = omega (arith, d) in
    search (rules, e)

pub note_block-note_binding-requires : goal.note_block-note_binding-requires
note_block-note_binding-requires t c =
    let d = op_lighter c.as_slice-ops.result.now c.b.inside.bindings (length c.as_slice-ops.result.now - 1 - c.loop-k.k) c.index-ops-n.result c.b.inside.tail c.args.b.now (omega (arith, c.loop-k-test.true)) c.index-ops-n.is c.as_slice-ops.ensures.is c.b.view_is in
    let e : 4 * bound_weight (seen c.index-ops-n.result) + 2 < 4 * block_weight c.args.b.now = omega (arith, d) in
    search (rules, e)

pub note_block-loop-k-init : goal.note_block-loop-k-init
note_block-loop-k-init t c =
    let ops = c.as_slice-ops.result.now in
    let whole = ap (λ ps. block_of ps (tail_of (seen c.b.inside.tail))) c.as_slice-ops.ensures.is ∙ c.b.view_is in
    record {
      noted = noted_init ops (seen c.b.inside.tail) c.args.b.now (length ops) whole refl (reverse c.args.notes.now.items) (reverse c.push_unread.new.notes.items) (reverse c.note_op.new.notes.items) c.in_ok-push_unread.ensures.pushed c.in_ok-note_op.ensures.noted;
      marked = marked_init ops (seen c.b.inside.tail) c.args.b.now (length ops) whole refl (reverse c.args.marks.now.items) (reverse c.note_op.new.marks.items) c.in_ok-note_op.ensures.marked;
    }

pub note_block-loop-k-preserved : goal.note_block-loop-k-preserved
note_block-loop-k-preserved t c =
    let ops = c.as_slice-ops.result.now in
    let whole = ap (λ ps. block_of ps (tail_of (seen c.b.inside.tail))) c.as_slice-ops.ensures.is ∙ c.b.view_is in
    record {
      noted = noted_more ops (seen c.b.inside.tail) c.args.b.now (length ops) whole refl c.loop-k.k c.index-ops-n.result c.loop-k-test.true c.index-ops-n.is (reverse c.args.notes.now.items) (reverse c.loop-k.notes.items) (reverse c.note_binding.new.notes.items)
          c.loop-k.invariant.noted c.in_ok-note_binding.ensures.noted;
      marked = marked_more ops (seen c.b.inside.tail) c.args.b.now (length ops) whole refl c.loop-k.k c.index-ops-n.result c.loop-k-test.true c.index-ops-n.is (reverse c.args.marks.now.items) (reverse c.loop-k.marks.items) (reverse c.note_binding.new.marks.items)
          (reverse c.loop-k.notes.items) (reverse c.args.notes.now.items) c.loop-k.invariant.noted c.loop-k.invariant.marked c.in_ok-note_binding.ensures.marked;
    }

pub note_block-returns-clause-noted : goal.note_block-returns-clause-noted
note_block-returns-clause-noted t c = noted_end c.args.b.now (length c.as_slice-ops.result.now) c.loop-k.k c.loop-k-test.false (reverse c.args.notes.now.items) (reverse c.loop-k.notes.items) c.loop-k.invariant.noted

pub note_block-returns-clause-marked : goal.note_block-returns-clause-marked
note_block-returns-clause-marked t c = marked_end c.args.b.now (length c.as_slice-ops.result.now) c.loop-k.k c.loop-k-test.false (reverse c.args.marks.now.items) (reverse c.loop-k.marks.items) c.loop-k.invariant.marked

pub note_branches-returns-clause-noted : goal.note_branches-returns-clause-noted
note_branches-returns-clause-noted t c =
    on_ok_weaker c.note_empties.result
    (λ e. branches_noted c.args.bs.now c.as_slice.result.now c.as_slice-2.result.now (reverse c.args.notes.now.items) (reverse c.note_heads.new.notes.items) (reverse c.note_empties.new.notes.items) c.as_slice.ensures.is c.as_slice-2.ensures.is c.in_ok-note_heads.ensures.noted e)
    c.note_empties.ensures.noted

pub note_heads-loop-k-init : goal.note_heads-loop-k-init
note_heads-loop-k-init t c = record {
  noted = arms_noted_init heads_read head_marks (λ i. refl) refl heads_step head_marks_step c.args.bs.now (length c.args.bs.now) refl (reverse c.args.notes.now.items);
  marked = arms_marked_init heads_read head_marks (λ i. refl) refl heads_step head_marks_step c.args.bs.now (length c.args.bs.now) refl (reverse c.args.marks.now.items);
}

pub note_heads-note_head-requires : goal.note_heads-note_head-requires
note_heads-note_head-requires t c =
    let d = arm_lighter c.args.bs.now (length c.args.bs.now - 1 - c.loop-k.k) c.index-bs-n.result (omega (arith, c.loop-k-test.true)) c.index-bs-n.is in
    let e : 4 * block_weight c.index-bs-n.result.body + 1 < 4 * branches_weight (branches_of c.args.bs.now) = omega (arith, d) in
    search (rules, e)

pub note_heads-loop-k-preserved : goal.note_heads-loop-k-preserved
note_heads-loop-k-preserved t c = record {
  noted = arms_noted_more heads_read head_marks (λ i. refl) refl heads_step head_marks_step c.args.bs.now (length c.args.bs.now) refl c.loop-k.k c.index-bs-n.result c.loop-k-test.true c.index-bs-n.is (reverse c.args.notes.now.items) (reverse c.loop-k.notes.items)
      (reverse c.note_head.new.notes.items) c.loop-k.invariant.noted c.in_ok-note_head.ensures.noted;
  marked = arms_marked_more heads_read head_marks (λ i. refl) refl heads_step head_marks_step c.args.bs.now (length c.args.bs.now) refl c.loop-k.k c.index-bs-n.result c.loop-k-test.true c.index-bs-n.is (reverse c.args.marks.now.items) (reverse c.loop-k.marks.items)
      (reverse c.note_head.new.marks.items) c.loop-k.invariant.marked c.in_ok-note_head.ensures.marked;
}

pub note_empties-loop-k-init : goal.note_empties-loop-k-init
note_empties-loop-k-init t c = record {
  noted = arms_noted_init empties_read empty_marks (λ i. refl) refl empties_step empty_marks_step c.args.bs.now (length c.args.bs.now) refl (reverse c.args.notes.now.items);
  marked = arms_marked_init empties_read empty_marks (λ i. refl) refl empties_step empty_marks_step c.args.bs.now (length c.args.bs.now) refl (reverse c.args.marks.now.items);
}

pub note_empties-note_empty-requires : goal.note_empties-note_empty-requires
note_empties-note_empty-requires t c =
    let d = arm_lighter c.args.bs.now (length c.args.bs.now - 1 - c.loop-k.k) c.index-bs-n.result (omega (arith, c.loop-k-test.true)) c.index-bs-n.is in
    let e : 4 * block_weight c.index-bs-n.result.body + 1 < 4 * branches_weight (branches_of c.args.bs.now) = omega (arith, d) in
    search (rules, e)

pub note_empties-loop-k-preserved : goal.note_empties-loop-k-preserved
note_empties-loop-k-preserved t c = record {
  noted = arms_noted_more empties_read empty_marks (λ i. refl) refl empties_step empty_marks_step c.args.bs.now (length c.args.bs.now) refl c.loop-k.k c.index-bs-n.result c.loop-k-test.true c.index-bs-n.is (reverse c.args.notes.now.items) (reverse c.loop-k.notes.items)
      (reverse c.note_empty.new.notes.items) c.loop-k.invariant.noted c.in_ok-note_empty.ensures.noted;
  marked = arms_marked_more empties_read empty_marks (λ i. refl) refl empties_step empty_marks_step c.args.bs.now (length c.args.bs.now) refl c.loop-k.k c.index-bs-n.result c.loop-k-test.true c.index-bs-n.is (reverse c.args.marks.now.items) (reverse c.loop-k.marks.items)
      (reverse c.note_empty.new.marks.items) c.loop-k.invariant.marked c.in_ok-note_empty.ensures.marked;
}

pub note_head-returns-then-b-eq0-clause-noted : goal.note_head-returns-then-b-eq0-clause-noted
note_head-returns-then-b-eq0-clause-noted t c = sym (also_none (λ i. heads_read i (branches_of (c.args.b.now ∷ []))) (reverse c.args.notes.now.items) (λ i. no_heads i c.args.b.now.binders c.args.b.now.body c.if-b-eq0.true))

pub note_head-returns-clause-noted : goal.note_head-returns-clause-noted
note_head-returns-clause-noted t c =
    let b = c.args.b.now in
    let n : c.len-outer.result ≡ length c.args.notes.now.items = search rules in
    binders_gone b.binders b.body c.args.notes.now.items c.push_unread.new.notes.items c.note_block.new.notes.items c.truncate.new.self.items (omega (arith, c.if-b-eq0.false)) c.in_ok-push_unread.ensures.pushed c.in_ok-note_block.ensures.noted
    (c.truncate.ensures.items ∙ ap (λ (k : ℕ). take k c.note_block.new.notes.items) n)

pub note_empty-returns-then-b-gt0-clause-noted : goal.note_empty-returns-then-b-gt0-clause-noted
note_empty-returns-then-b-gt0-clause-noted t c = sym (also_none (λ i. empties_read i (branches_of (c.args.b.now ∷ []))) (reverse c.args.notes.now.items) (λ i. no_empties i c.args.b.now.binders c.args.b.now.body c.if-b-gt0.true))

pub note_op-returns-in-Const-clause-noted : goal.note_op-returns-in-Const-clause-noted
note_op-returns-in-Const-clause-noted t c =
    let rs = reverse c.args.notes.now.items in
    sym (ap (λ (o : LiftedOp). also (λ i. bound_reads i (seen o)) rs) c.in-Const.is ∙ also_none (λ i. Never) rs (λ i. refl))

pub note_op-returns-in_ok-note_branches-in-Case-clause-noted : goal.note_op-returns-in_ok-note_branches-in-Case-clause-noted
note_op-returns-in_ok-note_branches-in-Case-clause-noted t c =
    let rs = reverse c.args.notes.now.items in
    c.note_atom-in-Case.ensures.noted ∙ ap (λ (zs : List Times). also (λ i. names i c.in-Case.a) zs) c.in_ok-note_branches-in-Case.ensures.noted
    ∙ also_both (λ i. branches_read i c.in-Case.bs) (λ i. names i c.in-Case.a) rs ∙ sym (ap (λ (o : LiftedOp). also (λ i. bound_reads i (seen o)) rs) c.in-Case.is)

pub note_head-returns-clause-marked : goal.note_head-returns-clause-marked
note_head-returns-clause-marked t c =
    let b = c.args.b.now in
    let n : 0 < b.binders = omega (arith, c.if-b-eq0.false) in
    let same : c.as_slice.result.now ≡ c.note_block.new.notes.items = search rules in
    let noted = c.in_ok-note_block.ensures.noted ∙ ap (λ (zs : List Times). also (λ i. block_reads i b.body) zs) c.in_ok-push_unread.ensures.pushed in
    field_marked b.binders b.body (reverse c.note_block.new.notes.items) (reverse c.args.notes.now.items) (reverse c.note_block.new.marks.items) (reverse c.args.marks.now.items) (reverse c.mark_field.new.marks.items) n noted c.in_ok-note_block.ensures.marked
    (c.in_ok-mark_field.ensures.marked ∙ ap (λ (zs : List Times). field_marks b.binders (get_or (reverse zs) 0 More) ++ reverse c.note_block.new.marks.items) same)
