use Rattle.explanations.proofs.Adding.{adds_both}
use Rattle.explanations.proofs.lines.term_line.Goals as goal

pub returns : goal.returns
returns c =
    let k = rw c.loose.ensures.is at c.put_count.ensures.adds in
    let at = rw (c.cut_depth.ensures.is, c.depth.ensures.is) at c.put_cut.ensures.adds in
    record {
      adds = adds_both _ _ _ _ _ c.put.ensures.adds (adds_both _ _ _ _ _ c.put-2.ensures.adds (adds_both _ _ _ _ _ k (adds_both _ _ _ _ _ c.put-3.ensures.adds (adds_both _ _ _ _ _ at
          (adds_both _ _ _ _ _ c.put-4.ensures.adds (adds_both _ _ _ _ _ c.put_term.ensures.adds c.put-5.ensures.adds))))));
    }
