use Rattle.explanations.proofs.Adding.{adds_both}
use Rattle.explanations.proofs.explanation.put_relation.Goals as goal

pub returns : goal.returns
returns c =
    let word = rw c.relation_text.ensures.is at c.put-2.ensures.adds in
    let left = rw c.text_at.ensures.is at c.put-4.ensures.adds in
    let right = rw c.text_at-2.ensures.is at c.put-6.ensures.adds in
    record {
      adds = adds_both _ _ _ _ _ c.put.ensures.adds (adds_both _ _ _ _ _ word (adds_both _ _ _ _ _ c.put-3.ensures.adds (adds_both _ _ _ _ _ left (adds_both _ _ _ _ _ c.put-5.ensures.adds
          (adds_both _ _ _ _ _ right c.put-7.ensures.adds)))));
    }
