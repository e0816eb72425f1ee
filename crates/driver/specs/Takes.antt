-- What err takes of a line or of some.
use Rattle.std.specs.Prelude.{ℕ, ◌≤◌, ◌⊎◌, List, length, take, Option}
use Rattle.std.specs.Io.KnownBytes.{Appends}
use Rattle.kio.specs.Causes.{Rose}

-- A prefix of the text went out.
abbrev pub TakesPrefix : Option (List ℕ) → Option (List ℕ) → List ℕ → Type 0
TakesPrefix old new text = (n : ℕ) × (n ≤ length text) × Appends old new (take n text)

-- A line goes to err whole, or a prefix of it where err's count of faults rose.
pub record TakesLine (old new : Option (List ℕ)) (before now : ℕ) (line : List ℕ) : Type 0 where
  pub count : before ≤ now
  pub line_or_prefix : Appends old new line ⊎ (Rose before now × TakesPrefix old new line)
