use Rattle.explanations.proofs.Adding.{adds_both}
use Rattle.explanations.proofs.explanation.constraint_line.Goals as goal

pub returns : goal.returns
returns c = record { adds = adds_both _ _ _ _ _ c.put.ensures.adds (adds_both _ _ _ _ _ c.put_constraint.ensures.adds c.put-2.ensures.adds) }
