-- Sources and sinks in memory, and what one call on them does.
use Rattle.std.specs.Prelude.{◌≡◌, ℕ, Bool, true, false, List, ◌++◌, length, take, drop, min, Result, Ok, Err, ◌==◌}
use Rattle.std.specs.List.{list_any}
use Rattle.kio.specs.Causes.{one_more}
use Rattle.kio.specs.declared.Failed.{Failed}

-- A source in memory: the bytes that it has still to give, the pieces that its reads gave, the numbers of the calls that fail (the first call is 1), how many
-- calls there were, and how many of them failed.
pub record SourceState : Type 0 where
  pub left : List ℕ
  pub given : List (List ℕ)
  pub fails : List ℕ
  pub calls : ℕ
  pub faults : ℕ

-- A sink in memory: the bytes that it has taken, the most that it takes in a call, and the same three.
pub record SinkState : Type 0 where
  pub taken : List ℕ
  pub most : ℕ
  pub fails : List ℕ
  pub calls : ℕ
  pub faults : ℕ

-- Is the call after so many calls a listed one?
abbrev pub next_is_listed : (fails : List ℕ) (calls : ℕ) → Bool
next_is_listed fails calls = list_any (λ k. k == one_more calls) fails

-- A read of a source in memory gives as much as there is room for; it fails exactly at the listed calls. The history of its reads is what the trait's clause says.
abbrev pub MemReads : SourceState → SourceState → Result ℕ Failed → List ℕ → Type 0
MemReads old new (Ok n) buf =
    (next_is_listed old.fails old.calls ≡ false)
    × (n ≡ min (length buf) (length old.left))
    × (take n buf ≡ take n old.left)
    × (new ≡ record old { left = drop n old.left; given = new.given; calls = one_more old.calls })
MemReads old new (Err e) buf =
    (next_is_listed old.fails old.calls ≡ true)
    × (new ≡ record old { calls = one_more old.calls; faults = one_more old.faults })

-- A write to a sink in memory takes as much as it may; it fails at the listed calls, and where memory is short.
abbrev pub MemWrites : SinkState → SinkState → Result ℕ Failed → List ℕ → Type 0
MemWrites old new (Ok n) piece =
    (next_is_listed old.fails old.calls ≡ false)
    × (n ≡ min (length piece) old.most)
    × (new ≡ record old { taken = old.taken ++ take n piece; calls = one_more old.calls })
MemWrites old new (Err e) piece = new ≡ record old { calls = one_more old.calls; faults = one_more old.faults }
