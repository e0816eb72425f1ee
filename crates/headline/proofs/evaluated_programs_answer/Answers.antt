use Rattle.headline.proofs.EachRun.{each_run}
use Rattle.headline.proofs.evaluated_programs_answer.Goals as goal

pub returns : goal.returns
returns c = record { runs = each_run }
