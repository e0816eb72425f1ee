use Rattle.std.proofs.Common.{arith}
use Rattle.back_end.specs.BackEnd.{passed}
use Rattle.compile.proofs.CallStarting.{never_refused_for_call}
use Rattle.compile.proofs.Within.{fits_call_valid}
use Rattle.compile.proofs.call_modules_are_valid.Goals as goal

pub returns-clause-valid : goal.returns-clause-valid
returns-clause-valid c = fits_call_valid

pub returns-clause-made : goal.returns-clause-made
returns-clause-made c = λ P k pages pos fits. never_refused_for_call (passed P) k pages pos (let h = fits.few in omega (arith, h))
