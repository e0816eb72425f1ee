use Rattle.std.proofs.Common.{arith}
use Rattle.back_end.specs.BackEnd.{passed}
use Rattle.compile.proofs.Starting.{never_refused}
use Rattle.compile.proofs.machines_are_made.Goals as goal

pub returns : goal.returns
returns c = record { made = λ P pages pos fits. never_refused (passed P) pages pos (let h = fits.few in omega (arith, h)) }
