use Rattle.row_terms.proofs.reading.read.Goals as goal

pub returns-in-Ok : goal.returns-in-Ok
returns-in-Ok c = let x = c.in-Ok.ensures.exact in record { spelled = (c.as_slice.result.now, x.0, x.1, x.2) }
