use Rattle.plain_programs.proofs.Erased.{mains_are_erased}
use Rattle.plain_programs.proofs.plain_mains_are_erased.Goals as goal

pub returns : goal.returns
returns c = record { erased = mains_are_erased }
