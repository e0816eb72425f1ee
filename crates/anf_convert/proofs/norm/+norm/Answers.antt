use Rattle.std.proofs.Common.{rules, arith, ◌≡◌, ◌<◌, ◌≤◌, length, sym, ap, ◌∙◌, subst}
use Rattle.trees.specs.Measures.{depth, depth_trees}
use Rattle.box_terms.specs.BoxSyntax.{BFix}
use Rattle.box_terms.specs.BoxLists.{arms_of, bodies_of, rargs_of}
use Rattle.box_terms.specs.BoxView.{box_of}
use Rattle.anf_convert.specs.ToAnf.{norm}
use Rattle.anf_convert.specs.Writing.{number_of}
use Rattle.box_terms.proofs.Items.{arm_is_less, body_is_less}
use Rattle.anf_convert.proofs.Steps.{argument_written, fix_res}
use Rattle.anf_convert.proofs.norm.+norm.Goals as goal

pub argument-returns-clause-written : goal.argument-returns-clause-written
argument-returns-clause-written t c =
    argument_written c.args.levels.now c.args.out.now _ _ c.args.t.now _ c.in_ok-made.ensures.written c.in_ok-made.ensures.ok c.in_ok-level.ensures.written

pub branches-block-requires : goal.branches-block-requires
branches-block-requires t c =
    let l : c.loop-i.i < length c.as_slice-arms.result.now = grind arith in
    let d = subst (λ xs. depth c.index-arms-i.result.body ≤ depth_trees (arms_of xs)) c.as_slice-arms.ensures.is (arm_is_less c.as_slice-arms.result.now c.loop-i.i c.index-arms-i.result l c.index-arms-i.is) in
    search (rules, d)

pub definitions-definition-requires : goal.definitions-definition-requires
definitions-definition-requires t c =
    let l : c.loop-i.i < length c.as_slice-defs.result.now = grind arith in
    let d = subst (λ ds. depth c.index-defs-i.result.body ≤ depth_trees (bodies_of (length c.args.ds.now) ds)) c.as_slice-defs.ensures.is
    (body_is_less (length c.args.ds.now) c.as_slice-defs.result.now c.loop-i.i c.index-defs-i.result l c.index-defs-i.is) in
    search (rules, d)

pub result-returns-in_ok-defs-in-Fix-clause-ok : goal.result-returns-in_ok-defs-in-Fix-clause-ok
result-returns-in_ok-defs-in-Fix-clause-ok t c =
    let e : c.args.t.now ≡ BFix c.in-Fix.i (rargs_of c.in-Fix.ds) (bodies_of (length c.in-Fix.ds) c.in-Fix.ds) = sym c.view.ensures.is ∙ ap box_of c.in-Fix.is in
    c.operation-in-Fix.ensures.is
    ∙ fix_res c.args.levels.now c.args.out.now.depth c.in-Fix.i c.in-Fix.ds c.in_ok-defs-in-Fix.defs c.in_ok-defs-in-Fix.ensures.ok
    ∙ ap (λ t. (norm number_of c.args.levels.now c.args.out.now.depth t).res) (sym e)
