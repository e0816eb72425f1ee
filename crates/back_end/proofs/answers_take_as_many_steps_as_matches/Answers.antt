use Rattle.back_end.proofs.Lower.{lower_bound}
use Rattle.back_end.proofs.answers_take_as_many_steps_as_matches.Goals as goal

pub returns : goal.returns
returns c = record { least = lower_bound }
