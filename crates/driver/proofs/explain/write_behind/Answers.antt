use Rattle.std.proofs.lemmas.Result.{on_ok_weaker}
use Rattle.driver.specs.Lines.{line_of}
use Rattle.driver.proofs.explain.write_behind.Goals as goal
use Rattle.dump_printer.proofs.Written.{appends_both}

pub returns : goal.returns
returns g c = record {
  all = on_ok_weaker c.write_all.result (λ h. appends_both _ _ _ (line_of c.args.refusal.now) c.args.text.now c.in_ok-write_line.ensures.all h) c.write_all.ensures.all;
}
