-- The end of a module's answer is one, and what it is where every run of the module answers the same data or is exhausted.
use Rattle.std.specs.Prelude.{ℕ, ◌≡◌, ◌≢◌, ◌<◌, length, Result, Ok, Err}
use Rattle.wasm_core.specs.Parts.{Parts}
use Rattle.wasm_core.specs.WordData.{DataNodes}
use Rattle.wasm_core.specs.Answer.{AnswersWithin}
use Rattle.mem_value.specs.Tells.{most_nodes}
use Rattle.module_run.specs.declared.answer.Answer.{Answer}
use Rattle.module_run.specs.declared.refusal.RunRefusal.{RunRefusal}
use Rattle.module_run.specs.declared.refusal.RunRefusal.TheVariants as refusals
use Rattle.module_run.specs.Ends.{Ends}

abbrev pub EndIsOne : Type 0
EndIsOne = (m : Parts) (cap n : ℕ) (a b : Result Answer RunRefusal) → Ends m cap n a → Ends m cap n b → a ≢ Err refusals.Memory → b ≢ Err refusals.Memory → a ≡ b

-- the data; or the module is too large, the data is, the steps are spent or the memory is
abbrev pub AnswersOrSpends : ℕ → ℕ → DataNodes → Result Answer RunRefusal → Type 0
AnswersOrSpends most n d (Ok a) = a.tree ≡ d
AnswersOrSpends most n d (Err refusals.ModuleBytes) = Unit {0}
AnswersOrSpends most n d (Err refusals.StepsSpent) = n < most
AnswersOrSpends most n d (Err refusals.Exhausted) = Unit {0}
AnswersOrSpends most n d (Err (refusals.Trapped kind)) = ⊥
AnswersOrSpends most n d (Err (refusals.NoValue word)) = ⊥
AnswersOrSpends most n d (Err refusals.AnswerNodes) = most_nodes < length d
AnswersOrSpends most n d (Err refusals.Memory) = Unit {0}

abbrev pub EndsAnswer : Type 0
EndsAnswer = (m : Parts) (cap most n : ℕ) (d : DataNodes) (r : Result Answer RunRefusal) → AnswersWithin m most d → Ends m cap n r → AnswersOrSpends most n d r
