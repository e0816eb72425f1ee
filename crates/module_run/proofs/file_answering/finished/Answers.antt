use Rattle.std.proofs.Common.{Err, subst, sym}
use Rattle.wasm_core.specs.Runs.{main_start}
use Rattle.module_run.specs.FileEnds.{RunEnds}
use Rattle.module_run.proofs.FileStages.{data_ends, no_data_ends, run_writes_none, stop_ends}
use Rattle.module_run.proofs.file_answering.finished.Goals as goal

pub returned-requires : goal.returned-requires
returned-requires g c = (let f = c.requires.fresh in record { start = (main_start f.0, f.0, f.1, f.2) })

pub refused-requires-in-Err : goal.refused-requires-in-Err
refused-requires-in-Err g c =
    let f = c.requires.fresh in
    record { no_bytes = run_writes_none f.0 f.1 c.args.steps c.returned.new.machine c.in-Err.why (c.in-Err.ensures.says (main_start f.0) f.0 f.1 f.2) }

pub returns-in-Ok-answered : goal.returns-in-Ok-answered
returns-in-Ok-answered g c = record {
  says = λ m cap f. data_ends m cap c.args.steps c.returned.new.machine (c.in-Ok.ensures.says (main_start m) m cap f) c.in-Ok-answered.answer c.in-Ok-answered.ensures.says;
  told = λ m cap f. c.in-Ok.ensures.told (main_start m) m cap f;
}

pub returns-in-Err-answered : goal.returns-in-Err-answered
returns-in-Err-answered g c = record {
  says = λ m cap f. subst (λ r. RunEnds m cap c.args.steps (Err r)) (sym c.refused.ensures.is)
      (no_data_ends m cap c.args.steps c.returned.new.machine (c.in-Ok.ensures.says (main_start m) m cap f) c.in-Err-answered.why c.in-Err-answered.ensures.says);
  told = λ m cap f. tt;
}

pub returns-in-Err : goal.returns-in-Err
returns-in-Err g c = record {
  says = λ m cap f. subst (λ r. RunEnds m cap c.args.steps (Err r)) (sym c.refused-in-Err.ensures.is)
      (stop_ends m cap c.args.steps c.returned.new.machine c.in-Err.why (c.in-Err.ensures.says (main_start m) m cap f));
  told = λ m cap f. tt;
}
