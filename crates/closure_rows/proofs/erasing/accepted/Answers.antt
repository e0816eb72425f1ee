use Rattle.closure_rows.proofs.erasing.accepted.Goals as goal

pub returns-in-Ok-clause-few : goal.returns-in-Ok-clause-few
returns-in-Ok-clause-few c = c.read_counts_are_few.ensures.few c.args.raw.now c.requires.spelled c.in-Ok.accepted.env c.in-Ok.accepted.main_type c.in-Ok.ensures.well_formed
