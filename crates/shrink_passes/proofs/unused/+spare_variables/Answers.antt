use Rattle.std.proofs.Common.{rules, arith, ◌≡◌, ◌+◌, ◌<◌, ◌≤◌, ap, ◌∙◌, sym}
use Rattle.trees.specs.Measures.{depth, depth_limit}
use Rattle.box_terms.specs.BoxSyntax.{BLambda}
use Rattle.box_terms.specs.BoxView.{box_of}
use Rattle.shrink_passes.proofs.unused.+spare_variables.Goals as goal

pub spare_variables-requires : goal.spare_variables-requires
spare_variables-requires t c =
    let e : box_of c.view.result.now ≡ BLambda c.in-Lambda.b = ap box_of c.in-Lambda.is in
    let q : depth (BLambda c.in-Lambda.b) ≡ depth c.args.t.now = ap depth (sym e ∙ c.view.ensures.is) in
    let d : depth c.in-Lambda.b < depth c.args.t.now = omega (arith, q) in
    let room : c.args.n + 1 + depth c.in-Lambda.b ≤ depth_limit + 1 = omega (arith, q, c.requires.room) in
    search (rules, d, room)
