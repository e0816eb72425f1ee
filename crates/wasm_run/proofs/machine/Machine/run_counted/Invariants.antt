use Rattle.std.proofs.Common.{◌≡◌, ◌+◌, ◌-◌, ◌^◌, List, false}
use Rattle.std.specs.Prelude.{min}
use Rattle.reports.specs.declared.fact.Fact.{Fact}
use Rattle.wasm_run.specs.Tallies.{IsTally}
use Rattle.wasm_run.specs.ToldSteps.{Tells}
use Rattle.wasm_run.proofs.machine.Machine.run_counted.Given as goal

abbrev pub invariant-loop-made : goal.invariant-loop-made
invariant-loop-made l = record {
  program : l.self.program ≡ l.fn.self.program;
  cap : l.self.cap ≡ l.fn.self.cap;
  sound : l.self.failed ≡ false;
  told : (facts : List Fact) × Tells l.fn.self.program l.fn.self.cap l._made l.fn.self.state l.self.state facts × IsTally l.tally facts;
  counted : l.self.made ≡ min (l.fn.self.made + l._made) (2 ^ 64 - 1);
}
