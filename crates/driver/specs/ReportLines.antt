-- The lines of reports.
use Rattle.std.specs.Prelude.{ℕ, List, [], ◌∷◌, ◌++◌, codes, decimal, min}
use Rattle.reports.specs.Counting.{after_all, last}
use Rattle.reports.specs.declared.fact.Fact.{Fact}
use Rattle.reports.specs.Shown.{Shown}

-- `report NAME COUNT`, with LF
abbrev pub line : (name count : ℕ) → List ℕ
line name count = codes "report " ++ (decimal name ++ (codes " " ++ (decimal count ++ 10 ∷ [])))

-- a report's line: its count is read up to the last value of u64
abbrev pub line_of : Shown → List ℕ
line_of r = line r.named (min r.counted last)

-- a line for each, in order
abbrev pub lines : List Shown → List ℕ
lines [] = []
lines (r ∷ rs) = line_of r ++ lines rs

-- the lines that reports have once they are told facts
abbrev pub told_lines : List Fact → List Shown → List ℕ
told_lines facts [] = []
told_lines facts (r ∷ rs) = line r.named (after_all r.wanted facts r.counted) ++ told_lines facts rs
