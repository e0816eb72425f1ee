use Rattle.box_passes.proofs.Matches.{same_matches}
use Rattle.box_passes.proofs.laws.both_evaluations_have_the_same_matches.Goals as goal

pub returns : goal.returns
returns c = record { matches = same_matches }
