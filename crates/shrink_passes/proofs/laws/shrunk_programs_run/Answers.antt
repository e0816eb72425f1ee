use Rattle.shrink_passes.proofs.ShrunkPrograms.{shrunk_forms, shrunk_keeps, shrunk_runs}
use Rattle.shrink_passes.proofs.laws.shrunk_programs_run.Goals as goal

pub returns : goal.returns
returns c = record { form = shrunk_forms; keeps = shrunk_keeps; runs = shrunk_runs }
