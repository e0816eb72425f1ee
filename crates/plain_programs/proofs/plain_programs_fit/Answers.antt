use Rattle.plain_programs.proofs.Passed.{programs_evaluate, programs_fit, modules_are_small}
use Rattle.plain_programs.proofs.plain_programs_fit.Goals as goal

pub returns-clause-evaluates : goal.returns-clause-evaluates
returns-clause-evaluates c = programs_evaluate

pub returns-clause-fits : goal.returns-clause-fits
returns-clause-fits c = programs_fit

pub returns-clause-small : goal.returns-clause-small
returns-clause-small c = modules_are_small
