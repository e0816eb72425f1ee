-- Counts of facts of a run, by class.
use Rattle.std.specs.Prelude.{ℕ, ◌≡◌, List, ◌++◌, Bool, replicate}
use Rattle.reports.specs.Counting.{after_all, numbered}
use Rattle.reports.specs.declared.fact.Fact.{Fact}
use Rattle.reports.specs.declared.fact.Fact.TheVariants.{StepDone, Grew}
use Rattle.wasm_run.specs.declared.tally.Tally.{Tally}

-- the counted facts, by rising class, and then the grows
abbrev pub counted_facts : Tally → List Fact
counted_facts t = numbered StepDone 1 t.steps ++ replicate t.grows Grew

-- a report counts as many of the counted facts as of these, whichever it wants
abbrev pub IsTally : Tally → List Fact → Type 0
IsTally t facts = (wanted : Fact → Bool) (n : ℕ) → after_all wanted (counted_facts t) n ≡ after_all wanted facts n
