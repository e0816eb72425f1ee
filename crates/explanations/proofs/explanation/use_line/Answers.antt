use Rattle.explanations.proofs.Adding.{adds_both}
use Rattle.explanations.proofs.explanation.use_line.Goals as goal

pub returns : goal.returns
returns c = record {
  adds = adds_both _ _ _ _ _ c.put.ensures.adds (adds_both _ _ _ _ _ c.put_number.ensures.adds (adds_both _ _ _ _ _ c.put-2.ensures.adds (adds_both _ _ _ _ _ c.put_count.ensures.adds c.put-3.ensures.adds)));
}
