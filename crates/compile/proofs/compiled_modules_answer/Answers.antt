use Rattle.compile.proofs.Within.{fits_answer, fits_valid}
use Rattle.compile.proofs.compiled_modules_answer.Goals as goal

pub returns-clause-runs : goal.returns-clause-runs
returns-clause-runs c = fits_answer

pub returns-clause-valid : goal.returns-clause-valid
returns-clause-valid c = fits_valid
