use Rattle.std.proofs.Common.{◌≡◌, ◌+◌, ◌-◌, ◌^◌, false}
use Rattle.std.specs.Prelude.{min}
use Rattle.wasm_core.specs.Runs.{Moves}
use Rattle.wasm_run.proofs.machine.Machine.run.Given as goal

abbrev pub invariant-loop-made : goal.invariant-loop-made
invariant-loop-made l = record {
  program : l.self.program ≡ l.fn.self.program;
  cap : l.self.cap ≡ l.fn.self.cap;
  sound : l.self.failed ≡ false;
  moved : Moves l.fn.self.program l.fn.self.cap l._made l.fn.self.state l.self.state;
  counted : l.self.made ≡ min (l.fn.self.made + l._made) (2 ^ 64 - 1);
}
