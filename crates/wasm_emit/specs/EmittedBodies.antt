-- How many locals the functions of a program may have, and why there are no bodies of functions.
use Rattle.std.specs.Prelude.{◌≡◌, ◌≤◌, ◌-◌, ◌⊎◌}
use Rattle.closure_lift.specs.Lifted.{Block, Fn, Program}
use Rattle.wasm_core.specs.ModuleCondition.{All}
use Rattle.wasm_emit.specs.EmittedLocals.{top}
use Rattle.wasm_emit.specs.declared.fault.EmitFault.{EmitFault}
use Rattle.wasm_emit.specs.declared.fault.EmitFault.TheVariants as fault

-- a function has at most 50,000 locals besides its parameters
abbrev pub FewInFunction : Fn → Type 0
FewInFunction f = top 2 f.body - 2 ≤ 50000

abbrev pub FewInBlock : Block → Type 0
FewInBlock t = top 0 t ≤ 50000

-- no function has more locals
pub record FewLocals (P : Program) : Type 0 where
  pub functions : All FewInFunction P.functions
  pub constants : All FewInBlock P.constants
  pub main : FewInBlock P.main

-- why there are no bodies: there is no memory, or some function has too many locals
abbrev pub MemoryOrNot : EmitFault → Type 0 → Type 0
MemoryOrNot e Few = (e ≡ fault.Memory) ⊎ ((e ≡ fault.Locals) × (Few → ⊥))
