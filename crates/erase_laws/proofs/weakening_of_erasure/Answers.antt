use Rattle.erase_laws.proofs.ErasureInside.{weakening_of_erasure}
use Rattle.erase_laws.proofs.weakening_of_erasure.Goals as goal

pub returns : goal.returns
returns c = record { erasure = weakening_of_erasure }
