-- The targets of a body's places: of the innermost block that is open after a place.
use Rattle.std.specs.Prelude.{ℕ, zero, suc, ◌≡◌, ◌+◌, List, [], ◌∷◌, length, drop, Some, slice_get}
use Rattle.wasm_core.specs.declared.instrs.Instr.{Instr}
use Rattle.wasm_core.specs.MachineStep.{after_end, else_arm}
use Rattle.wasm_run.specs.declared.targets.Target.{Target}

-- the target of the block inside of which the rest is, where d further blocks are open
pub record IsTarget (code rest : List Instr) (d : ℕ) (t : Target) : Type 0 where
  pub end : drop t.end code ≡ after_end d rest
  pub other : drop t.other code ≡ else_arm d rest

pub record AreTargets (code : List Instr) (ts : List Target) : Type 0 where
  pub count : length ts ≡ length code
  pub each : (at : ℕ) (t : Target) → slice_get ts at ≡ Some t → IsTarget code (drop (at + 1) code) 0 t

-- the target of the d-th open block, or one past the body
abbrev pub target_at : List Instr → List Target → ℕ → Target
target_at code [] d = record { end = length code; other = length code }
target_at code (t ∷ ts) zero = t
target_at code (t ∷ ts) (suc d) = target_at code ts d

abbrev pub tail_of : List Target → List Target
tail_of [] = []
tail_of (t ∷ ts) = ts

-- the targets of all blocks that are open before the rest, the innermost first
abbrev pub Opened : List Instr → List Instr → List Target → Type 0
Opened code rest blocks = (d : ℕ) → IsTarget code rest d (target_at code blocks d)
