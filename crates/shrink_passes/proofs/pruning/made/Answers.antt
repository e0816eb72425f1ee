use Rattle.std.proofs.Common.{rules, arith, ◌≡◌, ◌≤◌, ap}
use Rattle.std.specs.Prelude.{nat_eq}
use Rattle.std.specs.HashMap.{get}
use Rattle.trees.specs.Measures.{depth, depth_limit}
use Rattle.box_terms.specs.BoxView.{box_of}
use Rattle.shrink_passes.specs.DeadPlaces.{is_place}
use Rattle.shrink_passes.specs.Pruned.{pruned}
use Rattle.shrink_passes.proofs.Cuts.{pruned_depth}
use Rattle.shrink_passes.proofs.pruning.made.Goals as goal

pub returns-in-Err-TooDeep-clause-only_memory : goal.returns-in-Err-TooDeep-clause-only_memory
returns-in-Err-TooDeep-clause-only_memory c =
    let same : depth (box_of c.args.node) ≡ depth (pruned (is_place (get nat_eq c.args.table.now)) c.args.t.now) = ap depth c.requires.is in
    let within = c.depth-within.ensures.within.0 in
    let less : depth (box_of c.args.node) ≤ depth_limit = omega (arith, same, within, pruned_depth (is_place (get nat_eq c.args.table.now)) c.args.t.now) in
    search (rules, less)
