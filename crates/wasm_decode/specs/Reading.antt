-- What the reader of instructions promises.
use Rattle.std.specs.Prelude.{◌≡◌, ℕ, ◌+◌, ◌≤◌, List, [], ◌∷◌, length, false, Result, Ok, Err, OnOk}
use Rattle.wasm_core.specs.Format.{Accepted}
use Rattle.wasm_core.specs.ModuleGrammar.{Spelling, instrs, sections, SpellsModule, StopsModule}
use Rattle.wasm_decode.specs.Found.{parts_of}
use Rattle.wasm_decode.specs.declared.found.Found.{Found}
use Rattle.wasm_core.specs.declared.binary_faults.DecodeFault.TheVariants as faults
use Rattle.wasm_core.specs.Parts.{Parts}
use Rattle.wasm_core.specs.declared.instrs.Instr.{Instr}
use Rattle.wasm_decode.specs.Reads.{judged, Goes}
use Rattle.wasm_core.specs.declared.binary_faults.DecodeFault.{DecodeFault}
use Rattle.wasm_decode.specs.declared.cursor.Cursor.{Cursor}

-- The instructions, however many may come.
pub record ReadsInstrs {X : Type 0} (result : Result X DecodeFault) (old new : Cursor) (seen : X → List Instr) : Type 0 where
  pub same : OnOk result (new.at + length new.rest.now ≡ old.at + length old.rest.now)
  pub goes : (n : ℕ) → length old.rest.now ≤ n → (k : List Instr → Spelling) (ws : List (List ℕ)) → Goes result (judged old (instrs n (false ∷ []) [] k) ws) (λ v. judged new (k (seen v)) ws)

-- The sections up to the end of the file, however many may come.
pub record ReadsSections (result : Result (Unit {0}) DecodeFault) (old : Cursor) (before after : Parts) : Type 0 where
  pub goes : (n : ℕ) → length old.rest.now ≤ n → Goes result (judged old (sections n 0 before) []) (λ v. Accepted after)

-- What the sections hold is the module that the bytes spell, or the bytes spell none, and stop at this offset.
abbrev pub ExplainsFound : Result Found DecodeFault → List ℕ → Type 0
ExplainsFound (Ok f) bytes = SpellsModule bytes (parts_of f)
ExplainsFound (Err faults.Memory) bytes = Unit {0}
ExplainsFound (Err (faults.Bad o)) bytes = StopsModule bytes o
