-- No bytes that spell a module are fewer than its shortest bytes, which spell it too.
use Rattle.std.specs.Prelude.{ℕ, ◌≤◌, ◌<◌, ◌^◌, List, length}
use Rattle.wasm_core.specs.Parts.{Parts}
use Rattle.wasm_core.specs.ModuleGrammar.{SpellsModule}
use Rattle.wasm_core.specs.ShortestBytes.{module_bytes}

-- The shortest bytes of what some bytes spell are no more than those, and spell it too where those are fewer than 2^32.
abbrev pub NoneIsShorter : Type 0
NoneIsShorter = (bytes : List ℕ) (m : Parts) → SpellsModule bytes m → (length (module_bytes m) ≤ length bytes) × (length bytes < 2 ^ 32 → SpellsModule (module_bytes m) m)
