-- What the stages that `exec` and `bench` share say: the text of the answer, and the figures of its environment and its run.
use Rattle.std.specs.Prelude.{ℕ, ◌≡◌, List, length, Result, Ok, Err}
use Rattle.command_line.specs.declared.job.Job.TheVariants.{Exec}
use Rattle.command_line.specs.declared.line.Request.{Request}
use Rattle.driver.specs.declared.exec.Executed.{Executed}
use Rattle.driver.specs.declared.refusal.Refusal.{Refusal}
use Rattle.driver.specs.Executed.{IsExecuted}
use Rattle.driver.specs.Bench.{bytes_of, steps_of, pages_of}
use Rattle.driver.specs.Serve.{RefusalSays}

pub record HasFigures (q : Request) (bytes : List ℕ) (x : Executed) : Type 0 where
  pub executed : IsExecuted q.turns q.pages q.steps bytes x.line.items
  pub declarations_are : x.declarations ≡ length executed.environment.decls
  pub bytes_are : x.bytes ≡ bytes_of executed.stages
  pub steps_are : x.steps ≡ steps_of executed.stages
  pub pages_are : x.pages ≡ pages_of executed.stages

-- that, or the refusal of a stage
abbrev pub ExecutedSays : Request → Result Executed Refusal → List ℕ → Type 0
ExecutedSays q (Ok x) bytes = HasFigures q bytes x
ExecutedSays q (Err r) bytes = RefusalSays Exec q r bytes
