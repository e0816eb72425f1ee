use Rattle.std.proofs.Common.{rules, arith, ◌<◌, ◌≤◌, ◌&&◌, length, Some, subst, ap, ◌∙◌, sym}
use Rattle.std.specs.Prelude.{nat_eq}
use Rattle.std.specs.HashMap.{get}
use Rattle.std.proofs.lemmas.Result.{on_ok_weaker}
use Rattle.std.proofs.Math.Bool.{and_assoc, and-true}
use Rattle.trees.specs.Measures.{depth, depth_trees}
use Rattle.box_terms.specs.BoxLists.{arms_of, bodies_of}
use Rattle.box_terms.proofs.Items.{arm_is_less, body_is_less}
use Rattle.shrink_passes.specs.DeadPlaces.{is_place, is_reached, noted}
use Rattle.shrink_passes.proofs.Noted.{fits_noted}
use Rattle.shrink_passes.proofs.noting.+note.Goals as goal

pub note_branches-note_whole-requires : goal.note_branches-note_whole-requires
note_branches-note_whole-requires t c =
    let l : c.loop-i.i < length c.as_slice-xs.result.now = grind arith in
    let d = subst (λ xs. depth c.index-xs-i.result.body ≤ depth_trees (arms_of xs)) c.as_slice-xs.ensures.is (arm_is_less c.as_slice-xs.result.now c.loop-i.i c.index-xs-i.result l c.index-xs-i.is) in
    search (rules, d)

pub note_defs-note_whole-requires : goal.note_defs-note_whole-requires
note_defs-note_whole-requires t c =
    let l : c.loop-i.i < length c.as_slice-xs.result.now = grind arith in
    let d = subst (λ ds. depth c.index-xs-i.result.body ≤ depth_trees (bodies_of (length c.args.ds.now) ds)) c.as_slice-xs.ensures.is
    (body_is_less (length c.args.ds.now) c.as_slice-xs.result.now c.loop-i.i c.index-xs-i.result l c.index-xs-i.is) in
    search (rules, d)

pub note_whole-returns-in-None-clause-noted : goal.note_whole-returns-in-None-clause-noted
note_whole-returns-in-None-clause-noted t c = λ k p.
    let old = is_place (get nat_eq c.args.table.now) k p in
    let u = c.args.t.now in
    c.in_ok-note.ensures.noted k p
    ∙ ap (λ z. old && z) (sym (fits_noted k p u ∙ ap (λ h. noted k p u && is_reached k p h) (sym c.in_ok-note.ensures.head ∙ c.in-None.is) ∙ and-true (noted k p u)))

pub note_whole-returns-in-Some-clause-noted : goal.note_whole-returns-in-Some-clause-noted
note_whole-returns-in-Some-clause-noted t c = on_ok_weaker c.lose.result
    (λ f k p.
    let old = is_place (get nat_eq c.args.table.now) k p in
    let u = c.args.t.now in
    let r = is_reached k p (Some c.in-Some.of) in
    f k p ∙ ap (λ z. z && r) (c.in_ok-note.ensures.noted k p) ∙ and_assoc old (noted k p u) r
    ∙ ap (λ z. old && z) (sym (fits_noted k p u ∙ ap (λ h. noted k p u && is_reached k p h) (sym c.in_ok-note.ensures.head ∙ c.in-Some.is)))) c.lose.ensures.lost
