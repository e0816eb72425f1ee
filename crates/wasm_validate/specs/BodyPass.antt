-- Where the one pass over a body stops.
use Rattle.std.specs.Prelude.{ℕ, ◌+◌, List, [], ◌∷◌, Option, Some, None}
use Rattle.wasm_core.specs.declared.instrs.Instr.{Instr}
use Rattle.wasm_core.specs.Parts.{Parts}
use Rattle.wasm_core.specs.ModuleTyping.{OperandTypes}
use Rattle.wasm_core.specs.Pass.{Place, Check, More, Finished, check}

-- after the instruction at place p: it has no step, or others come after the body's own end, or the pass goes on
abbrev pub stops_after : Option Check → ℕ → List Instr → (Place → Option ℕ) → Option ℕ
stops_after None p rest go = Some p
stops_after (Some Finished) p [] go = None
stops_after (Some Finished) p (i ∷ rest) go = Some (p + 1)
stops_after (Some (More b)) p rest go = go b

-- the place at which the pass stops before the end of the code, counted on from p; none where it ends with the code
abbrev pub stops : Parts → OperandTypes → OperandTypes → Place → ℕ → List Instr → Option ℕ
stops m ls rs a p [] = Some p
stops m ls rs a p (i ∷ rest) = stops_after (check m ls rs i a) p rest (λ b. stops m ls rs b (p + 1) rest)
