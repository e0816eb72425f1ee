-- The job `explain` has no refusal of the check: what the directed rules come to is its answer.
use Rattle.std.specs.Prelude.{◌≡◌, ◌≢◌, ℕ, List, Some}
use Rattle.reports.specs.Shown.{Shown}
use Rattle.command_line.specs.declared.job.Job.TheVariants.{Explain}
use Rattle.command_line.specs.declared.line.Request.{Request}
use Rattle.command_line.specs.Line.{request_of}
use Rattle.driver.specs.BesideCheck.{IsBesideCheck}
use Rattle.driver.specs.Served.{Seen, Served}

-- no refusal is one of spent units, of a limit of depth behind the text or of a broken rule
abbrev pub ExplainRefusesBesideCheck : (S K E : Type 0) → Type 0
ExplainRefusesBesideCheck S K E =
    (status : ℕ) (words : List (List ℕ)) (reports : List Shown) (src src' : Seen S) (out out' : Seen K) (err err' : Seen E) (s : Served status words reports src src' out out' err err') →
    (q : Request) → request_of words ≡ Some q → q.job ≡ Explain → (n : status ≢ 0) → IsBesideCheck (s.refused n).refusal

-- so the status is neither 8 nor 9
abbrev pub ExplainHasNoSuchStatus : (S K E : Type 0) → Type 0
ExplainHasNoSuchStatus S K E =
    (status : ℕ) (words : List (List ℕ)) (reports : List Shown) (src src' : Seen S) (out out' : Seen K) (err err' : Seen E) → Served status words reports src src' out out' err err' →
    (q : Request) → request_of words ≡ Some q → q.job ≡ Explain → (status ≢ 8) × (status ≢ 9)
