-- What a report shows, and what telling it facts does to that.
use Rattle.std.specs.Prelude.{ℕ, ◌≡◌, min, Bool, List}
use Rattle.reports.specs.Counting.{after_all, last}
use Rattle.reports.specs.declared.fact.Fact.{Fact}

-- the facts that it wants, its count, its name
pub record Shown : Type 0 where
  pub wanted : Fact → Bool
  pub counted : ℕ
  pub named : ℕ

-- Its count, read up to the last value of u64, rises by the number of facts that it wants, and ends at that value; nothing else that it shows changes.
pub record IsTold (facts : List Fact) (old new : Shown) : Type 0 where
  pub counted : min new.counted last ≡ after_all old.wanted facts old.counted
  pub wanted : new.wanted ≡ old.wanted
  pub named : new.named ≡ old.named
