-- The parts outside the bodies, in the order of their sections.
use Rattle.std.proofs.Common.{ℕ, ◌<◌, ◌≤◌, true, false, refl, arith}
use Rattle.std.specs.Prelude.{IsTrue, ◌↔◌}
use Rattle.std.proofs.lemmas.Bool.{false≢true}
use Rattle.wasm_core.specs.Parts.{Parts}
use Rattle.wasm_core.specs.ModuleTyping.{Part, Functions, Tables, Memories, Globals, Exported, Elements, Codes, id_of, IsSound}

-- no part stands there
pub too_late : {A : Type 0} (k n : ℕ) → n ≤ k → k < n → A
too_late k n le lt = absurd (omega arith)

-- the parts of the sections before one
pub sound_before : (m : Parts) (n : ℕ) → (3 < n → IsSound Functions m) → (4 < n → IsSound Tables m) → (5 < n → IsSound Memories m) → (6 < n → IsSound Globals m) → (7 < n → IsSound Exported m) → (9 < n → IsSound Elements m) → (10 < n → IsSound Codes m) → (q : Part) → id_of q < n → IsSound q m
sound_before m n f t y g x e c Functions lt = f lt
sound_before m n f t y g x e c Tables lt = t lt
sound_before m n f t y g x e c Memories lt = y lt
sound_before m n f t y g x e c Globals lt = g lt
sound_before m n f t y g x e c Exported lt = x lt
sound_before m n f t y g x e c Elements lt = e lt
sound_before m n f t y g x e c Codes lt = c lt

-- a test that failed
pub failed : {P : Type 0} → (IsTrue false ↔ P) → P → ⊥
failed h p = false≢true (h.1 p)

-- and one that didn't
pub passed : {P : Type 0} → (IsTrue true ↔ P) → P
passed h = h.0 refl
