use Rattle.module_run.proofs.OneEnd.{end_is_one}
use Rattle.module_run.proofs.one_end.Goals as goal

pub returns : goal.returns
returns c = record { one = end_is_one }
