use Rattle.compile.proofs.Within.{causes_are_one}
use Rattle.compile.proofs.one_cause.Goals as goal

pub returns : goal.returns
returns c = record { one = causes_are_one }
