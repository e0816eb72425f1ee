use Rattle.headline.proofs.Writing.{fitting_is_written}
use Rattle.headline.proofs.fitting_data_is_written.Goals as goal

pub returns : goal.returns
returns c = record { text = fitting_is_written }
