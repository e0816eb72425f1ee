use Rattle.std.proofs.Common.{◌≡◌, ◌≤◌, replicate}
use Rattle.wasm_core.specs.declared.types.ValType.TheVariants.{I32}
use Rattle.wasm_emit.proofs.parts.type_of.Given as goal

abbrev pub invariant-loop : goal.invariant-loop
invariant-loop l = (l.types.items ≡ replicate l.counter I32) × (l.counter ≤ l.params)
