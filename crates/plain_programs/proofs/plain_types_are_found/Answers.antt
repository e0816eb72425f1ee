use Rattle.plain_programs.proofs.Searched.{types_are_found}
use Rattle.plain_programs.proofs.plain_types_are_found.Goals as goal

pub returns : goal.returns
returns c = record { found = types_are_found }
