use Rattle.std.proofs.Common.{rules, arith, ◌≡◌, ◌<◌, ◌≤◌, ◌+◌, suc, ◌∷◌, ◌++◌, length, ap, sym, ◌∙◌, subst}
use Rattle.anf_convert.specs.Anf.{LamOp, OpIs, block_of, tail_of, def_count}
use Rattle.anf_convert.specs.AnfView.{seen}
use Rattle.anf_convert.specs.AnfWeight.{binding_weight, block_weight, branches_weight, defs_weight}
use Rattle.anf_convert.specs.Captured.{captured}
use Rattle.anf_convert.proofs.ViewLists.{defs_of_count}
use Rattle.closure_lift.specs.FreeVariables.{free_block, free_defs, at_first, notes_block, notes_defs}
use Rattle.closure_lift.specs.Noting.{free_bound, notes_bound}
use Rattle.closure_lift.proofs.Noted.{noted, names_after, names_before}
use Rattle.closure_lift.proofs.Lighter.{op_lighter, tail_lighter, arm_lighter, def_weight, def_lighter}
use Rattle.closure_lift.proofs.Noting.{part_more, free_here, notes_here, room}
use Rattle.closure_lift.proofs.free.+note.Goals as goal

pub note_block-note_op-requires : goal.note_block-note_op-requires
note_block-note_op-requires t c =
    let o = c.index-ops-i.result in
    let tl = c.block.inside.tail in
    let d : binding_weight (seen o) < block_weight c.args.block.now =
    subst (λ b. binding_weight (seen o) < block_weight b) c.block.view_is
    (subst (λ ps. binding_weight (seen o) < block_weight (block_of ps (tail_of (seen tl)))) c.as_slice-ops.ensures.is (op_lighter c.as_slice-ops.result.now c.loop-i.i o tl c.loop-i-test.true c.index-ops-i.is)) in
    search (rules, d)

pub note_block-loop-i-preserved : goal.note_block-loop-i-preserved
note_block-loop-i-preserved t c =
    let ops = c.as_slice-ops.result.now in
    let o = c.index-ops-i.result in
    let tl = tail_of (seen c.block.inside.tail) in
    record {
      names = part_more c.loop-i.names.items _ _ c.in_ok-note_op.ensures.names (free_here c.loop-i.under c.in_ok-under.under ops c.loop-i.i o tl c.loop-i-test.true c.index-ops-i.is c.in_ok-under.ensures.is) c.loop-i.invariant.names;
      notes = part_more c.loop-i.notes.items _ _ c.in_ok-note_op.ensures.notes (notes_here c.loop-i.under c.in_ok-under.under ops c.loop-i.i o tl c.loop-i-test.true c.index-ops-i.is c.in_ok-under.ensures.is) c.loop-i.invariant.notes;
    }

pub note_block-note_op-requires-2 : goal.note_block-note_op-requires-2
note_block-note_op-requires-2 t c =
    let tl = c.block.inside.tail in
    let d : binding_weight (seen tl) < block_weight c.args.block.now = subst (λ b. binding_weight (seen tl) < block_weight b) c.block.view_is (tail_lighter c.block.inside.bindings tl) in
    search (rules, d)

pub note_branches-note_block-requires : goal.note_branches-note_block-requires
note_branches-note_block-requires t c =
    let b = c.index-items-i.result in
    let d : block_weight b.body < branches_weight c.args.branches.now = subst (λ bs. block_weight b.body < branches_weight bs) c.as_slice-items.ensures.is (arm_lighter c.as_slice-items.result.now c.loop-i.i b c.loop-i-test.true c.index-items-i.is) in
    search (rules, d)

pub note_defs-note_block-requires : goal.note_defs-note_block-requires
note_defs-note_block-requires t c =
    let e = c.index-items-i.result in
    let w : def_weight e < defs_weight c.args.defs.now = subst (λ ds. def_weight e < defs_weight ds) c.as_slice-items.ensures.is (def_lighter c.as_slice-items.result.now c.loop-i.i e c.loop-i-test.true c.index-items-i.is) in
    let same : def_weight e ≡ block_weight c.in-Lambda.body = ap def_weight c.in-Lambda.is in
    let d : block_weight c.in-Lambda.body < defs_weight c.args.defs.now = omega arith in
    search (rules, d)

pub note_op-note-requires-in-Fix : goal.note_op-note-requires-in-Fix
note_op-note-requires-in-Fix t c =
    let n : c.len-place-in-Fix.result ≡ length c.args.notes.now.items = search rules in
    let more = notes_defs c.in_ok-sum_of-in-Fix.field-0 c.in-Fix.defs in
    let r = room c.args.notes.now.items c.note_defs.new.notes.items more c.in_ok-count-in-Fix.count (c.in_ok-note_defs-in-Fix.ensures.notes ∙ ap (λ ls. ls ++ more) c.in_ok-reserve-in-Fix.ensures.notes) in
    record { place = subst (λ k. k + c.in_ok-count-in-Fix.count ≤ length c.note_defs.new.notes.items) (sym n) r }

pub note_op-returns-in_ok-free-in-Lambda-clause-notes : goal.note_op-returns-in_ok-free-in-Lambda-clause-notes
note_op-returns-in_ok-free-in-Lambda-clause-notes t c =
    let n = c.args.n in
    let old = c.args.notes.now.items in
    let b = c.deref.result.now in
    let bv : b ≡ c.in-Lambda.body.value = search rules in
    let m = c.in_ok-sum_of-in-Lambda.field-0 in
    let xs = c.in_ok-free-in-Lambda.free in
    let k : m ≡ 1 + n = c.in_ok-sum_of-in-Lambda.ensures.is in
    let k2 : m ≡ suc n = omega arith in
    let p : c.len-place.result ≡ length old = search rules in
    let q : c.len-start.result ≡ length c.args.names.now.items = search rules in
    let f : xs ≡ captured n (free_block m b) = c.in_ok-free-in-Lambda.ensures.is ∙ ap (captured n) (names_after c.args.names.now.items (free_block m b) c.note_block.new.names.items c.len-start.result q c.in_ok-note_block-in-Lambda.ensures.names) in
    noted old c.reserve.new.notes.items c.note_block.new.notes.items c.note.new.notes.items (notes_block m b) c.len-place.result 1 xs c.in_ok-reserve-in-Lambda.ensures.notes c.in_ok-note_block-in-Lambda.ensures.notes p c.note.ensures.notes
    ∙ ap (λ z. old ++ (z ∷ notes_block m b)) f ∙ ap (λ k. old ++ (captured n (free_block k b) ∷ notes_block k b)) k2
    ∙ ap (λ b. old ++ notes_bound n (OpIs (LamOp b))) bv ∙ ap (λ o. old ++ notes_bound n (seen o)) (sym c.in-Lambda.is)

pub note_op-returns-in_ok-free-in-Fix-clause-names : goal.note_op-returns-in_ok-free-in-Fix-clause-names
note_op-returns-in_ok-free-in-Fix-clause-names t c =
    let n = c.args.n in
    let names = c.args.names.now.items in
    let ds = c.in-Fix.defs in
    let m = c.in_ok-sum_of-in-Fix.field-0 in
    let xs = c.in_ok-free-in-Fix.free in
    let a : c.in_ok-count-in-Fix.count ≡ length c.as_slice.result.now = search rules in
    let k : m ≡ def_count ds + n = c.in_ok-sum_of-in-Fix.ensures.is ∙ ap (λ j. j + n) (a ∙ sym (defs_of_count c.as_slice.result.now) ∙ ap def_count c.as_slice.ensures.is) in
    let q : c.len-start-in-Fix.result ≡ length names = search rules in
    let f : xs ≡ captured n (free_defs m ds) = c.in_ok-free-in-Fix.ensures.is ∙ ap (captured n) (names_after names (free_defs m ds) c.note_defs.new.names.items c.len-start-in-Fix.result q c.in_ok-note_defs-in-Fix.ensures.names) in
    c.in_ok-free-in-Fix.ensures.names ∙ ap (λ z. z ++ xs) (names_before names (free_defs m ds) c.note_defs.new.names.items c.len-start-in-Fix.result q c.in_ok-note_defs-in-Fix.ensures.names)
    ∙ ap (λ z. names ++ z) f ∙ ap (λ j. names ++ captured n (free_defs j ds)) k ∙ ap (λ o. names ++ free_bound n (seen o)) (sym c.in-Fix.is)

pub note_op-returns-in_ok-free-in-Fix-clause-notes : goal.note_op-returns-in_ok-free-in-Fix-clause-notes
note_op-returns-in_ok-free-in-Fix-clause-notes t c =
    let n = c.args.n in
    let old = c.args.notes.now.items in
    let ds = c.in-Fix.defs in
    let count = c.in_ok-count-in-Fix.count in
    let m = c.in_ok-sum_of-in-Fix.field-0 in
    let xs = c.in_ok-free-in-Fix.free in
    let a : count ≡ length c.as_slice.result.now = search rules in
    let d : count ≡ def_count ds = a ∙ sym (defs_of_count c.as_slice.result.now) ∙ ap def_count c.as_slice.ensures.is in
    let k : m ≡ def_count ds + n = c.in_ok-sum_of-in-Fix.ensures.is ∙ ap (λ j. j + n) d in
    let p : c.len-place-in-Fix.result ≡ length old = search rules in
    let q : c.len-start-in-Fix.result ≡ length c.args.names.now.items = search rules in
    let f : xs ≡ captured n (free_defs m ds) = c.in_ok-free-in-Fix.ensures.is ∙ ap (captured n) (names_after c.args.names.now.items (free_defs m ds) c.note_defs.new.names.items c.len-start-in-Fix.result q c.in_ok-note_defs-in-Fix.ensures.names) in
    noted old c.reserve-in-Fix.new.notes.items c.note_defs.new.notes.items c.note-in-Fix.new.notes.items (notes_defs m ds) c.len-place-in-Fix.result count xs c.in_ok-reserve-in-Fix.ensures.notes c.in_ok-note_defs-in-Fix.ensures.notes p c.note-in-Fix.ensures.notes
    ∙ ap (λ z. old ++ (at_first count z ++ notes_defs m ds)) f ∙ ap (λ j. old ++ (at_first j (captured n (free_defs m ds)) ++ notes_defs m ds)) d
    ∙ ap (λ j. old ++ (at_first (def_count ds) (captured n (free_defs j ds)) ++ notes_defs j ds)) k ∙ ap (λ o. old ++ notes_bound n (seen o)) (sym c.in-Fix.is)
