use Rattle.metatheory.proofs.Untypable.{no_sort_in_itself}
use Rattle.metatheory.proofs.no_sort_in_itself.Goals as goal

pub returns : goal.returns
returns c = record { refused = no_sort_in_itself }
