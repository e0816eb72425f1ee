-- The maximum of level expressions, in normal form.
use Rattle.std.specs.Prelude.{◌≢◌, ◌<◌, ◌==◌, nat_lt, max, if◌then◌else◌, List, [], ◌∷◌}
use Rattle.std.specs.List.{AllPairs}
use Rattle.universe_levels.specs.declared.level.LevelExpr.{LevelExpr}

-- each level once, in rising order of the levels' numbers
abbrev pub IsRising : List LevelExpr → Type 0
IsRising ps = AllPairs (λ p q. p.level.0 < q.level.0) ps

-- the form of a universe: not empty, each level once, in rising order
abbrev pub IsNormal : List LevelExpr → Type 0
IsNormal ps = (ps ≢ []) × IsRising ps

-- a level expression put to others in rising order: a level that is there keeps its greater addition
abbrev pub with_part : LevelExpr → List LevelExpr → List LevelExpr
with_part e [] = e ∷ []
with_part e (p ∷ ps) =
    if nat_lt e.level.0 p.level.0 then e ∷ p ∷ ps
    else (if e.level.0 == p.level.0 then record { level = p.level; add = max p.add e.add } ∷ ps else p ∷ with_part e ps)

-- level expressions put to others, one by one
abbrev pub with_parts : List LevelExpr → List LevelExpr → List LevelExpr
with_parts ps [] = ps
with_parts ps (e ∷ es) = with_parts (with_part e ps) es

-- the maximum of level expressions: of each level its greatest addition, in rising order
abbrev pub maximum_of : List LevelExpr → List LevelExpr
maximum_of es = with_parts [] es
