-- Counts of which the first i are raised already, by what the others are raised by then.
use Rattle.std.specs.Prelude.{ℕ, ◌≡◌, List, ◌++◌, length, take, drop}
use Rattle.run_costs.specs.Costs.{raised}

abbrev pub part_raised : ℕ → List ℕ → List ℕ → List ℕ
part_raised i ds us = take i us ++ raised (drop i ds) (drop i us)

pub record IsPart (i : ℕ) (ds us vs : List ℕ) : Type 0 where
  pub is : raised ds us ≡ part_raised i ds vs
  pub counts : length vs ≡ length us
