-- The answer of a module, with the figures of its run.
use Rattle.std.specs.Prelude.{ℕ, ◌≡◌, length, Option, Result, Ok, Err}
use Rattle.wasm_core.specs.MachineStep.{State}
use Rattle.wasm_core.specs.Parts.{Parts}
use Rattle.wasm_core.specs.Runs.{main_start}
use Rattle.wasm_core.specs.ShortestBytes.{module_bytes}
use Rattle.module_run.specs.declared.answer.Measured.{Measured}
use Rattle.module_run.specs.declared.refusal.RunRefusal.{RunRefusal}
use Rattle.module_run.specs.Ends.{EndsFrom, IsSmall, IsAnsweredFrom}

-- the answer, by a run with these figures: the length of the module's shortest bytes, the steps to its return, the pages of memory then
pub record IsMeasuredFrom (o : Option State) (m : Parts) (cap n : ℕ) (x : Measured) : Type 0 where
  pub small : IsSmall m
  pub answered : IsAnsweredFrom o m cap n x.answer
  pub bytes_are : x.bytes ≡ length (module_bytes m)
  pub steps_are : x.steps ≡ answered.returned.run.steps
  pub pages_are : x.pages ≡ answered.returned.store.pages

-- so, or how the answer ends else
abbrev pub FigureSaysFrom : Option State → Parts → (cap n : ℕ) → Result Measured RunRefusal → Type 0
FigureSaysFrom o m cap n (Ok x) = IsMeasuredFrom o m cap n x
FigureSaysFrom o m cap n (Err r) = EndsFrom o m cap n (Err r)

-- ---- the same of a run of `main` in the store of its module

abbrev pub IsMeasured : Parts → (cap n : ℕ) → Measured → Type 0
IsMeasured m cap n x = IsMeasuredFrom (main_start m) m cap n x

abbrev pub FigureSays : Parts → (cap n : ℕ) → Result Measured RunRefusal → Type 0
FigureSays m cap n r = FigureSaysFrom (main_start m) m cap n r
