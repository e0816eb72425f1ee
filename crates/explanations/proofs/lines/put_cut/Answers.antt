use Rattle.std.proofs.Common.{arith, ◌<◌}
use Rattle.explanations.proofs.Adding.{adds_as, adds_both}
use Rattle.explanations.proofs.Listing.{cut_yes}
use Rattle.explanations.proofs.lines.put_cut.Goals as goal

pub returns-then-at-whole : goal.returns-then-at-whole
returns-then-at-whole c =
    let l : c.args.at < c.args.whole = grind arith in
    record {
      adds = adds_as _ _ _ _ (cut_yes c.args.at c.args.whole l)
          (adds_both _ _ _ _ _ c.put.ensures.adds (adds_both _ _ _ _ _ c.put_number.ensures.adds (adds_both _ _ _ _ _ c.put-then-at-whole.ensures.adds c.put_number-then-at-whole.ensures.adds)));
    }
