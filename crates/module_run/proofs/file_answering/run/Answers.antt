use Rattle.module_run.proofs.FileStages.{program_runs}
use Rattle.module_run.proofs.file_answering.run.Goals as goal

pub returns : goal.returns
returns g c =
    let fresh = c.in_ok-machine.ensures.says.1 in
    record {
      says = program_runs c.args.program.now c.args.cap c.args.steps c.in_ok-machine.ensures.says.0 c.finished.result (c.finished.ensures.says c.args.program.now c.args.cap fresh);
      told = c.finished.ensures.told c.args.program.now c.args.cap fresh;
    }
