use Rattle.std.proofs.Common.{arith, ◌≡◌, ◌∙◌, sym, ap, ◌<◌, ◌≤◌, ◌+◌, ◌-◌, suc}
use Rattle.trees.specs.Measures.{depth}
use Rattle.dump_printer.specs.Cut.{deepest_from, nodes_within}
use Rattle.dump_printer.proofs.Counts.{deepest_end, deepest_more, deepest_stops}
use Rattle.dump_printer.proofs.cutting.cut_depth.Goals as goal

pub returns-then-count-gt-MOST_SHOWN : goal.returns-then-count-gt-MOST_SHOWN
returns-then-count-gt-MOST_SHOWN c =
    let t = c.args.t.now in
    let d = c.loop-depth.depth in
    let l : d < depth t = grind arith in
    let h : 200 < nodes_within (d + 1) t = grind arith in
    let e : depth t - d ≡ suc (depth t - (d + 1)) = omega (arith, l) in
    record { is = sym (deepest_stops (depth t - (d + 1)) d t h) ∙ ap (λ n. deepest_from n d t) (sym e) ∙ c.loop-depth.invariant.same }

pub loop-depth-preserved : goal.loop-depth-preserved
loop-depth-preserved c =
    let t = c.args.t.now in
    let d = c.loop-depth.depth in
    let l : d < depth t = grind arith in
    let h : nodes_within (d + 1) t ≤ 200 = grind arith in
    let e : depth t - d ≡ suc (depth t - (d + 1)) = omega (arith, l) in
    record {
      within = omega (arith, l);
      same = sym (deepest_more (depth t - (d + 1)) d t h) ∙ ap (λ n. deepest_from n d t) (sym e) ∙ c.loop-depth.invariant.same;
    }

pub returns : goal.returns
returns c =
    let t = c.args.t.now in
    let d = c.loop-depth.depth in
    let e : depth t - d ≡ 0 = grind arith in
    record { is = sym (deepest_end d t) ∙ ap (λ n. deepest_from n d t) (sym e) ∙ c.loop-depth.invariant.same }
