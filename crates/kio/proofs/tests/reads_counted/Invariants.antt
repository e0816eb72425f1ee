use Rattle.kio.proofs.tests.reads_counted.Given as goal

abbrev pub ghosts-reads_needed : goal.ghosts-reads_needed
ghosts-reads_needed g a = record { name = a.blank.name; parts = a.blank.parts }
