use Rattle.std.proofs.Common.{rules, arith, ◌+◌, ◌<◌, ◌≤◌, ◌&&◌, length, subst, ap, ◌∙◌, sym}
use Rattle.std.proofs.Math.Bool.{and-true}
use Rattle.trees.specs.Measures.{depth, depth_trees}
use Rattle.box_terms.specs.BoxLists.{arms_of, bodies_of}
use Rattle.box_terms.proofs.Items.{arm_is_less, body_is_less}
use Rattle.shrink_passes.specs.DeadPlaces.{flag_at}
use Rattle.shrink_passes.proofs.UnusedPlaces.{closed_unnamed}
use Rattle.shrink_passes.proofs.unused.+pass.Goals as goal

pub pass-returns-then-loose-n-clause-passed : goal.pass-returns-then-loose-n-clause-passed
pass-returns-then-loose-n-clause-passed t c = λ j.
    let l : c.loose.result ≤ c.args.n + j = omega (arith, c.if-loose-n.true) in
    sym (ap (λ z. flag_at j c.args.spare.now && z) (closed_unnamed c.args.t.now c.loose.result (c.args.n + j) c.loose.ensures.closed l) ∙ and-true (flag_at j c.args.spare.now))

pub pass_branches-pass-requires : goal.pass_branches-pass-requires
pass_branches-pass-requires t c =
    let l : c.loop-i.i < length c.as_slice-xs.result.now = grind arith in
    let d = subst (λ xs. depth c.index-xs-i.result.body ≤ depth_trees (arms_of xs)) c.as_slice-xs.ensures.is (arm_is_less c.as_slice-xs.result.now c.loop-i.i c.index-xs-i.result l c.index-xs-i.is) in
    search (rules, d)

pub pass_defs-pass-requires : goal.pass_defs-pass-requires
pass_defs-pass-requires t c =
    let l : c.loop-i.i < length c.as_slice-xs.result.now = grind arith in
    let d = subst (λ ds. depth c.index-xs-i.result.body ≤ depth_trees (bodies_of (length c.args.ds.now) ds)) c.as_slice-xs.ensures.is
    (body_is_less (length c.args.ds.now) c.as_slice-xs.result.now c.loop-i.i c.index-xs-i.result l c.index-xs-i.is) in
    search (rules, d)
