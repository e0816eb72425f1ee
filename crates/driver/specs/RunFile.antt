-- The answer of `run`: the text of the data that the module of the input answers, by the numbers of constructors; and its refusals.
use Rattle.std.specs.Prelude.{ℕ, ◌≡◌, ◌≢◌, List, [], ◌∷◌, ◌++◌, Result, Ok, Err}
use Rattle.wasm_core.specs.WordData.{DataNodes}
use Rattle.first_order.specs.Texts.{IsText, by_tags}
use Rattle.module_run.specs.declared.file_refusal.FileRefusal.{FileRefusal}
use Rattle.module_run.specs.declared.file_refusal.FileRefusal.TheVariants as files
use Rattle.module_run.specs.FileEnds.{FileEnds}
use Rattle.driver.specs.declared.refusal.Refusal.{Refusal}
use Rattle.driver.specs.declared.refusal.Refusal.TheVariants as refusals
use Rattle.driver.specs.declared.refusal.RunEnd.TheVariants as runs
use Rattle.driver.specs.declared.refusal.ModuleFault.TheVariants as modules
use Rattle.driver.specs.Lines.{status_of}

-- The text is the answer of `run` on the input, with this bound on pages and so many steps.
pub record IsRunAnswer (pages steps : ℕ) (bytes text : List ℕ) : Type 0 where
  -- the input spells a valid module whose run of `main` returns, and this is the data that its result stands for
  pub tree : DataNodes
  pub ends : FileEnds bytes pages steps (Ok tree)
  -- the text of that, and LF
  pub line : List ℕ
  pub line_is : IsText by_tags 0 tree line
  pub text_is : text ≡ line ++ 10 ∷ []

-- the refusal of a module's answer, as one of the job
abbrev pub refusal_of_file : FileRefusal → Refusal
refusal_of_file (files.Bad o) = refusals.Module (modules.Bad o)
refusal_of_file (files.Invalid f p) = refusals.Module (modules.Invalid f p)
refusal_of_file (files.NoEntry n) = refusals.Module (modules.NoEntry n)
refusal_of_file files.Pages = refusals.Module modules.Pages
refusal_of_file files.Table = refusals.Module modules.Table
refusal_of_file files.ElementPastTable = refusals.Module modules.ElementPastTable
refusal_of_file files.Exhausted = refusals.Run runs.Exhausted
refusal_of_file files.StepsSpent = refusals.Run runs.StepsSpent
refusal_of_file (files.Trapped k) = refusals.Run (runs.Trapped k)
refusal_of_file (files.NoValue w) = refusals.Run (runs.NoValue w)
refusal_of_file files.AnswerNodes = refusals.AnswerNodes
refusal_of_file files.Memory = refusals.Memory

-- the answer of the module that the input spells ends with this refusal
pub record IsFileCause (pages steps : ℕ) (r : Refusal) (bytes : List ℕ) : Type 0 where
  pub why : FileRefusal
  pub ends : FileEnds bytes pages steps (Err why)
  pub other : why ≢ files.Memory
  pub is : r ≡ refusal_of_file why

-- what of the input shows a refusal of `run`
abbrev pub IsRunCause : (pages steps : ℕ) → Refusal → List ℕ → Type 0
IsRunCause pages steps refusals.Memory bytes = ⊥
IsRunCause pages steps refusals.Usage bytes = ⊥
IsRunCause pages steps refusals.ReadFault bytes = ⊥
IsRunCause pages steps refusals.WriteFault bytes = ⊥
IsRunCause pages steps refusals.InputBytes bytes = ⊥
IsRunCause pages steps r bytes = IsFileCause pages steps r bytes

abbrev pub status_of_run_end : Result DataNodes FileRefusal → ℕ
status_of_run_end (Ok tree) = 0
status_of_run_end (Err why) = status_of (refusal_of_file why)

-- the answer ends with this status
pub record RunEndsWith (pages steps : ℕ) (bytes : List ℕ) (status : ℕ) : Type 0 where
  pub end : Result DataNodes FileRefusal
  pub ends : FileEnds bytes pages steps end
  pub other : end ≢ Err files.Memory
  pub status_is : status ≡ status_of_run_end end
