use Rattle.std.proofs.Common.{rules, arith, ◌+◌, ◌≤◌, suc, Some, ap, ◌∙◌, sym}
use Rattle.trees.specs.Measures.{depth, depth_limit}
use Rattle.shrink_passes.proofs.Noted.{use_depth}
use Rattle.shrink_passes.proofs.noting.with_argument.Goals as goal

pub overflow_add-result : goal.overflow_add-result
overflow_add-result c =
    let l : suc c.in-Some.of.arguments ≤ depth c.args.f.now = use_depth c.args.f.now c.in-Some.of (sym c.in-Some.is ∙ c.requires.is) in
    let deep = c.depth-within.ensures.within.0 in
    let few : c.in-Some.of.arguments + 1 ≤ depth_limit = omega (arith, l, deep) in
    search (rules, few)
