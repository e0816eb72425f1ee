-- The five lines of `bench`.
use Rattle.std.specs.Prelude.{ℕ, ◌≡◌, ◌⊎◌, List, ◌++◌, codes, decimal, length, Option}
use Rattle.std.specs.Io.KnownBytes.{Appends}
use Rattle.wasm_core.specs.ShortestBytes.{module_bytes}
use Rattle.dump_reader.specs.declared.environment.RawEnv.{RawEnv}
use Rattle.command_line.specs.declared.job.Job.{Job}
use Rattle.command_line.specs.declared.job.Job.TheVariants.{Exec, Bench}
use Rattle.command_line.specs.declared.line.Request.{Request}
use Rattle.driver.specs.ExecEnds.{Answering, its_module}

-- a job that runs main's module
abbrev pub RunsModule : Job → Type 0
RunsModule job = (job ≡ Exec) ⊎ (job ≡ Bench)

-- how many declarations there are, the module's bytes, its run's steps and pages, and the text of the answer, which ends with LF
abbrev pub five_lines : (declarations bytes steps pages : ℕ) → (answer : List ℕ) → List ℕ
five_lines declarations bytes steps pages answer =
    codes "declarations " ++ (decimal declarations ++ (codes "\nbytes " ++ (decimal bytes ++ (codes "\nsteps " ++ (decimal steps ++ (codes "\npages " ++ (decimal pages ++ (codes "\nanswer " ++ answer))))))))

-- of a run that answers: the length of its module's shortest bytes, the steps to its return, the pages of memory then

abbrev pub bytes_of : {turns : ℕ} {e : RawEnv} {pages steps : ℕ} → Answering turns e pages steps → ℕ
bytes_of {pages = pages} x = length (module_bytes (its_module pages x.before))

abbrev pub steps_of : {turns : ℕ} {e : RawEnv} {pages steps : ℕ} → Answering turns e pages steps → ℕ
steps_of x = x.ends.1.returned.run.steps

abbrev pub pages_of : {turns : ℕ} {e : RawEnv} {pages steps : ℕ} → Answering turns e pages steps → ℕ
pages_of x = x.ends.1.returned.store.pages

-- the five lines of that
abbrev pub lines_of : {turns : ℕ} {e : RawEnv} {pages steps : ℕ} → Answering turns e pages steps → (answer : List ℕ) → List ℕ
lines_of {e = e} x answer = five_lines (length e.decls) (bytes_of x) (steps_of x) (pages_of x) answer

-- out takes the five lines of a run that answers, with this text of the answer
pub record TakesFigures (q : Request) (e : RawEnv) (answer : List ℕ) (taken taken' : Option (List ℕ)) : Type 0 where
  pub stages : Answering q.turns e q.pages q.steps
  pub takes : Appends taken taken' (lines_of stages answer)
