use Rattle.explanations.proofs.Adding.{adds_both}
use Rattle.explanations.proofs.explanation.clash_lines.Goals as goal

pub returns-in-Sorts : goal.returns-in-Sorts
returns-in-Sorts c = record {
  adds = rw c.in-Sorts.is (adds_both _ _ _ _ _ (rw c.get.ensures.is at c.sort_line.ensures.adds) (adds_both _ _ _ _ _ (rw c.get-in-Sorts.ensures.is at c.sort_line-in-Sorts.ensures.adds) c.put.ensures.adds));
}

pub returns-in-Terms : goal.returns-in-Terms
returns-in-Terms c = record {
  adds = rw c.in-Terms.is (adds_both _ _ _ _ _ c.term_line.ensures.adds c.term_line-in-Terms.ensures.adds);
}
