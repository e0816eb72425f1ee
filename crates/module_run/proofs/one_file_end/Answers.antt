use Rattle.module_run.proofs.OneFileEnd.{file_end_is_one}
use Rattle.module_run.proofs.one_file_end.Goals as goal

pub returns : goal.returns
returns c = record { one = file_end_is_one }
