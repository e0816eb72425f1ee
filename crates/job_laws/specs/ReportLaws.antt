-- With reports the top call keeps all that it promises without; it says nothing of two runs, since want of memory is free.
use Rattle.std.specs.Prelude.{◌≡◌, ◌≢◌, ℕ, List, []}
use Rattle.reports.specs.Shown.{Shown}
use Rattle.driver.specs.Served.{Seen, Served}

-- What is promised of a call without reports holds of this status, source and out, with err left as it was on status 0, and else as it is left.
pub record KeepsPromises {S K E : Type 0} (status : ℕ) (words : List (List ℕ)) (src src' : Seen S) (out out' : Seen K) (err err' : Seen E) : Type 0 where
  pub left : Seen E
  pub served : Served status words [] src src' out out' err left
  pub untouched : status ≡ 0 → left ≡ err
  pub alike : status ≢ 0 → left ≡ err'

abbrev pub ReportsBreakNoPromise : (S K E : Type 0) → Type 0
ReportsBreakNoPromise S K E =
    (status : ℕ) (words : List (List ℕ)) (reports : List Shown) (src src' : Seen S) (out out' : Seen K) (err err' : Seen E) →
    Served status words reports src src' out out' err err' → KeepsPromises status words src src' out out' err err'
