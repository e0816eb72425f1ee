-- The module with workers whose main applies the program's main to arguments that a host puts into memory before the run.
use Rattle.std.specs.Prelude.{ℕ, zero, suc, ◌*◌, List, [], ◌∷◌, max}
use Rattle.anf_convert.specs.declared.program.Atom.TheVariants.{Var as AVar}
use Rattle.closure_lift.specs.Lifted.{AppOp, Program}
use Rattle.wasm_core.specs.declared.instrs.Instr.{Instr}
use Rattle.wasm_core.specs.declared.instrs.Instr.TheVariants.{End, LocalSet, GlobalGet, GlobalSet}
use Rattle.wasm_core.specs.declared.instrs.Body.{Body}
use Rattle.wasm_core.specs.Parts.{Parts}
use Rattle.wasm_emit.specs.EmittedCode.{Load}
use Rattle.wasm_emit.specs.EmittedLocals.{top}
use Rattle.wasm_emit.specs.EmittedModule.{body}
use Rattle.wasm_emit.specs.CallModule.{call_globals, call_exports}
use Rattle.known_calls.specs.KnownPlaces.{At, InLocal}
use Rattle.known_calls.specs.KnownCode.{Inside, op, code}
use Rattle.known_calls.specs.KnownModule.{module_with}

-- main applied to so many words, whose address is in global 3: each time the function's word comes into local 0, and the argument's into local 1
abbrev pub applied : Program → ℕ → List Instr → List Instr
applied P zero rest = code P [] 0 Inside P.main rest
applied P (suc n) rest = applied P n (LocalSet 0 ∷ GlobalGet 3 ∷ Load (4 * n) ∷ LocalSet 1 ∷ op P (At (InLocal 1) ∷ At (InLocal 0) ∷ []) 2 Inside (AppOp (AVar 1) (AVar 0)) rest)

abbrev pub call_function : Program → ℕ → Body
call_function P k = body (max 2 (top 0 P.main)) (applied P k (GlobalSet 0 ∷ End ∷ []))

-- the module whose main applies the program's main to k arguments, which a host puts into memory before the run
abbrev pub module_of_call : Program → ℕ → ℕ → Parts
module_of_call P k pages = module_with P (call_function P k) call_globals call_exports pages
