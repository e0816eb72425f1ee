use Rattle.explanations.proofs.Adding.{adds_both}
use Rattle.explanations.proofs.explanation.kept_lines.Goals as goal

pub returns-in-ElimNotAllowed : goal.returns-in-ElimNotAllowed
returns-in-ElimNotAllowed c =
    let first = rw c.text_at-in-ElimNotAllowed.ensures.is at c.text_line-in-ElimNotAllowed.ensures.adds in
    record { adds = rw c.in-ElimNotAllowed.is (adds_both _ _ _ _ _ first c.number_line.ensures.adds) }

pub returns-in-NotGuarded : goal.returns-in-NotGuarded
returns-in-NotGuarded c = record { adds = rw c.in-NotGuarded.is c.term_line-in-NotGuarded.ensures.adds }
