-- The answer of `bench`.
use Rattle.std.specs.Prelude.{ℕ, ◌≡◌, List}
use Rattle.driver.specs.Executed.{IsExecuted}
use Rattle.driver.specs.Bench.{lines_of}

-- The text is the answer of `bench`, whose bytes are those of the text that it makes: the five lines of what `exec` does on them.
pub record IsBenched (turns pages steps : ℕ) (bytes text : List ℕ) : Type 0 where
  pub answer : List ℕ
  pub executed : IsExecuted turns pages steps bytes answer
  pub text_is : text ≡ lines_of executed.stages answer
