-- What a module that is ready to run keeps.
use Rattle.std.specs.Prelude.{ℕ, ◌≡◌, Some, length, slice_get, List}
use Rattle.wasm_core.specs.Instance.{table_of}
use Rattle.wasm_run.specs.Targets.{AreTargets}
use Rattle.wasm_run.specs.Programs.{code_of}
use Rattle.wasm_run.specs.declared.targets.Target.{Target}
use Rattle.wasm_run.specs.declared.program.Program.TheInside.{Inside}

pub record IsProgram (p : Inside) : Type 0 where
  pub table : p.table.items ≡ table_of p.module.now
  pub count : length p.targets.items ≡ length p.module.now.bodies
  pub each : (f : ℕ) (ts : List Target) → slice_get p.targets.items f ≡ Some ts → AreTargets (code_of p.module.now f) ts
