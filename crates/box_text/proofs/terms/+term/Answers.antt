use Rattle.std.proofs.Common.{rules, arith, ◌<◌, ◌≤◌, length, subst}
use Rattle.trees.specs.Measures.{depth, depth_trees}
use Rattle.box_terms.specs.BoxLists.{arms_of, bodies_of}
use Rattle.box_text.proofs.terms.+term.Goals as goal
use Rattle.box_terms.proofs.Items.{arm_is_less, body_is_less}

pub put_branches-put_branch-requires : goal.put_branches-put_branch-requires
put_branches-put_branch-requires t c =
    let l : c.loop-i.i < length c.as_slice-items.result.now = grind arith in
    let d = subst (λ bs. depth c.index-items-i.result.body ≤ depth_trees (arms_of bs)) c.as_slice-items.ensures.is (arm_is_less c.as_slice-items.result.now c.loop-i.i c.index-items-i.result l c.index-items-i.is) in
    search (rules, d)

pub put_definitions-put_definition-requires : goal.put_definitions-put_definition-requires
put_definitions-put_definition-requires t c =
    let l : c.loop-i.i < length c.as_slice-items.result.now = grind arith in
    let d = subst (λ ds. depth c.index-items-i.result.body ≤ depth_trees (bodies_of (length c.args.defs.now) ds)) c.as_slice-items.ensures.is
    (body_is_less (length c.args.defs.now) c.as_slice-items.result.now c.loop-i.i c.index-items-i.result l c.index-items-i.is) in
    search (rules, d)
