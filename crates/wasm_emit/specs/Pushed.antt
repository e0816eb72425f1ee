-- What the functions that push instructions have pushed: the instructions that the definitions put in front of any rest.
use Rattle.std.specs.Prelude.{◌≡◌, ◌<◌, ◌⊎◌, ℕ, zero, suc, List, ◌∷◌, ◌++◌}
use Rattle.closure_lift.specs.Lifted.{Fn, Bound, AtomIs, OpIs}
use Rattle.closure_lift.specs.LiftedProgram.{renumber_op, renumber, place_in}
use Rattle.closure_lift.specs.declared.program.Function.{Function}
use Rattle.closure_lift.specs.declared.program.Lifted.{Lifted}
use Rattle.wasm_core.specs.declared.instrs.Instr.{Instr}
use Rattle.wasm_core.specs.declared.instrs.Instr.TheVariants.{Unreachable, End}
use Rattle.wasm_emit.specs.EmittedLocals.{top_op}
use Rattle.wasm_emit.specs.declared.fault.EmitFault.{EmitFault}
use Rattle.wasm_emit.specs.declared.fault.EmitFault.TheVariants as fault

-- these instructions were pushed, in front of whatever comes after them
pub record Pushed (old new : List Instr) (g : List Instr → List Instr) : Type 0 where
  pub is : (rest : List Instr) → new ++ rest ≡ old ++ g rest

-- so many ends
abbrev pub ends : ℕ → List Instr → List Instr
ends zero rest = rest
ends (suc n) rest = End ∷ ends n rest

abbrev pub bound_locals : ℕ → Bound → ℕ
bound_locals d (AtomIs a) = d
bound_locals d (OpIs x) = top_op d x

abbrev pub renumber_bound : (ℕ → ℕ) → Bound → Bound
renumber_bound f (AtomIs a) = AtomIs a
renumber_bound f (OpIs x) = OpIs (renumber_op f x)

-- the function of a function in memory
abbrev pub function_in : Lifted → Function → Fn
function_in Q f = record { captured = f.captured; body = renumber (place_in Q.constants) f.body }

-- why a function with so many locals has no body: there is no memory, or the locals are too many
abbrev pub MemoryOrLocals : EmitFault → ℕ → Type 0
MemoryOrLocals e n = (e ≡ fault.Memory) ⊎ ((e ≡ fault.Locals) × (50000 < n))

-- n arms were begun, for the branches with binders
pub record BlockArms (old new : List Instr) (g : List Instr → List Instr) (n : ℕ) : Type 0 where
  pub is : (rest : List Instr) → new ++ (Unreachable ∷ ends n rest) ≡ old ++ g rest
