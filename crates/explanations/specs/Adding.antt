-- What is put behind a text.
use Rattle.std.specs.Prelude.{◌≡◌, ℕ, List, ◌++◌, false}
use Rattle.explanations.specs.declared.text.Text.{Text}

-- a text that has not failed had not failed, and has got these bytes behind it
pub record Adds (old new : Text) (bytes : List ℕ) : Type 0 where
  pub whole : new.failed ≡ false → (old.failed ≡ false) × (new.sink.taken ≡ old.sink.taken ++ bytes)
