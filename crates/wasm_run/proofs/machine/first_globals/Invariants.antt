use Rattle.std.proofs.Common.{◌≡◌, map, take}
use Rattle.wasm_core.specs.declared.types.GlobalDef.{GlobalDef}
use Rattle.wasm_run.proofs.machine.first_globals.Given as goal

abbrev pub invariant-loop-def : goal.invariant-loop-def
invariant-loop-def l = l.values.items ≡ map (λ (g : GlobalDef). g.init) (take l.def-index l.m.globals)
