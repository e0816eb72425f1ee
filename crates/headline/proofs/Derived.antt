-- What the directed rules accept of what is read is well formed.
use Rattle.env_check.proofs.Deriving.{accepted_checked}
use Rattle.headline.specs.AcceptedProgram.{AcceptedAreDerived}

pub derived : AcceptedAreDerived
derived e E T a = accepted_checked e a.cycle a.found a.room a.before E T a.after a.accepts a.spelled
