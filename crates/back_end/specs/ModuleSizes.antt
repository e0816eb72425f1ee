-- The size of modules.
use Rattle.std.specs.Prelude.{ℕ, ◌+◌, ◌*◌, ◌≤◌, length}
use Rattle.lambda_box.specs.BoxProgram.{BoxProgram}
use Rattle.lambda_box.specs.DataTerms.{greatest_words}
use Rattle.lambda_box.specs.SaturatedForm.{program_nodes}
use Rattle.box_passes.specs.PassLaws.{saturated_program}
use Rattle.wasm_core.specs.ShortestBytes.{module_bytes}
use Rattle.wasm_emit.specs.EmittedBodies.{FewLocals}
use Rattle.known_calls.specs.KnownModule.{module_of}
use Rattle.known_calls.specs.KnownCalls.{module_of_call}
use Rattle.wasm_emit.specs.EmitLaws.{CountsFit}
use Rattle.back_end.specs.BackEnd.{passed, IsWithinPasses}

-- where no function has too many locals, the shortest bytes of the module are at most so many
abbrev pub ModulesAreSmall : Type 0
ModulesAreSmall =
    (P : BoxProgram) (pages m : ℕ) → IsWithinPasses P m → CountsFit (passed P) m → length (module_bytes (module_of (passed P) pages)) ≤ 64 * program_nodes (saturated_program P) * greatest_words P + 4096

-- so are those of the module for calls with k arguments, but for the arguments' part
abbrev pub CallModulesAreSmall : Type 0
CallModulesAreSmall =
    (P : BoxProgram) (k pages m : ℕ) → k ≤ 255 → IsWithinPasses P m → CountsFit (passed P) m →
    length (module_bytes (module_of_call (passed P) k pages)) ≤ 63 * program_nodes (saturated_program P) * greatest_words P + 128 * k + 4096

-- only a program with over 50,000 nodes after saturation has a function with over 50,000 locals
abbrev pub LocalsAreFew : Type 0
LocalsAreFew = (P : BoxProgram) (m : ℕ) → IsWithinPasses P m → program_nodes (saturated_program P) ≤ 50000 → FewLocals (passed P)
