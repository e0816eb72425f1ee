use Rattle.type_laws.proofs.Solid.{families_stay}
use Rattle.type_laws.proofs.Lawful.{evaluations_are_lawful, whole_evaluations_are_lawful}
use Rattle.type_laws.proofs.evaluations_are_lawful.Goals as goal

pub returns : goal.returns
returns c = record { stay = families_stay; lawful = evaluations_are_lawful; whole = whole_evaluations_are_lawful }
