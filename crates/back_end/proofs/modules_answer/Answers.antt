use Rattle.back_end.proofs.Total.{total_back_end, total_spelled, total_valid}
use Rattle.back_end.proofs.modules_answer.Goals as goal

pub returns-clause-runs : goal.returns-clause-runs
returns-clause-runs c = total_back_end

pub returns-clause-valid : goal.returns-clause-valid
returns-clause-valid c = total_valid

pub returns-clause-spelled : goal.returns-clause-spelled
returns-clause-spelled c = total_spelled
