use Rattle.headline.proofs.LateReturns.{late_returns}
use Rattle.headline.proofs.returns_take_matches.Goals as goal

pub returns : goal.returns
returns c = record { matches = late_returns }
