-- Std's readers and writers as contracts see them: what was given and taken so far, and how many calls failed.
use Rattle.std.specs.Prelude.{ℕ, List}

-- A reader as a source: the pieces that its reads gave, and its count of faults.
pub record ReaderState : Type 0 where
  pub given : List (List ℕ)
  pub faults : ℕ

-- A writer as a sink: the bytes that its writes took, and its count of faults.
pub record WriterState : Type 0 where
  pub received : List ℕ
  pub faults : ℕ
