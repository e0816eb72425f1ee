use Rattle.rule_rows.proofs.conversions.checked_of.Goals as goal

pub returns-in-Ok : goal.returns-in-Ok
returns-in-Ok c = record { accepted = c.in-Ok.ensures.well_formed.formed.accepted }
