use Rattle.reports.proofs.FactByFact.{all_told_as}
use Rattle.wasm_run.specs.Tallies.{counted_facts}
use Rattle.wasm_run.proofs.Telling.{says_told}
use Rattle.wasm_run.proofs.machine.Machine.run_told.Goals as goal

pub returns : goal.returns
returns g c =
    let (facts, says, tallied) = c.run_counted-ended.ensures.says in
    record {
      kept = c.run_counted-ended.ensures.kept;
      says = says_told c.args.self.now c.run_counted-ended.new.self c.args.steps c.run_counted-ended.result facts says;
      told = (facts, says, all_told_as g.R.Report.shown (counted_facts c.run_counted-ended.new.tally) facts tallied _ _ c.tell_counted.ensures.told);
    }
