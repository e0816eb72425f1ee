use Rattle.std.proofs.Common.{◌≤◌, length, ap, ◌∙◌, sym, arith}
use Rattle.std.proofs.Math.ListN.{drop_of_length-le}
use Rattle.trees.specs.Measures.{depth}
use Rattle.shrink_passes.specs.Uses.{greatest}
use Rattle.shrink_passes.proofs.Deciding.{greatest_reverse}
use Rattle.shrink_passes.proofs.Table.{in_order}
use Rattle.shrink_passes.proofs.inlining.greatest_depth.Goals as goal

pub returns-clause-is : goal.returns-clause-is
returns-clause-is c =
    let items = c.as_slice-d-items.result.now in
    let cs = c.args.p.now.constants in
    let out : length items ≤ c.loop-d.d-index = c.loop-d-test.false in
    let none = ap (greatest depth) (drop_of_length-le items out) in
    let all = greatest_reverse depth cs ∙ sym (ap (greatest depth) (in_order items cs c.as_slice-d-items.ensures.is)) in
    omega (arith, c.loop-d.invariant.greatest_is, none, all)
