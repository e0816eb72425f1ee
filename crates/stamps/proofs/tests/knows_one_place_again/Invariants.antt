use Rattle.stamps.proofs.tests.knows_one_place_again.Given as goal

abbrev pub ghost-new : goal.ghost-new
ghost-new g a = 0
