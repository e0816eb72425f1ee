-- What the stages of `exec` say, as an answer or a refusal of `bench`.
use Rattle.std.proofs.Common.{◌≡◌, ℕ, List}
use Rattle.command_line.specs.declared.job.Job.TheVariants.{Bench, Exec}
use Rattle.command_line.specs.declared.line.Request.{Request}
use Rattle.driver.specs.declared.exec.Executed.{Executed}
use Rattle.driver.specs.declared.refusal.Refusal.{Refusal}
use Rattle.driver.specs.declared.refusal.Refusal.TheVariants as refusals
use Rattle.driver.specs.Bench.{five_lines, lines_of}
use Rattle.driver.specs.Figures.{HasFigures}
use Rattle.driver.specs.Serve.{RefusalSays}

-- a refusal of `exec` is one of `bench`
pub bench_says : (q : Request) (r : Refusal) (bytes : List ℕ) → RefusalSays Exec q r bytes → RefusalSays Bench q r bytes
bench_says q refusals.Memory bytes h = h
bench_says q _ bytes h = h

-- its lines are those of the run
pub lines_are : (q : Request) (bytes : List ℕ) (x : Executed) (h : HasFigures q bytes x) → five_lines x.declarations x.bytes x.steps x.pages x.line.items ≡ lines_of h.executed.stages x.line.items
lines_are q bytes x h = λ i. five_lines (h.declarations_are i) (h.bytes_are i) (h.steps_are i) (h.pages_are i) x.line.items
