-- Level expressions with one more.
use Rattle.std.specs.Prelude.{◌+◌}
use Rattle.universe_levels.specs.declared.level.LevelExpr.{LevelExpr}

-- one more
abbrev pub raised : LevelExpr → LevelExpr
raised e = record { level = e.level; add = e.add + 1 }

-- the level expression Set + 1
abbrev pub set_plus_one : LevelExpr
set_plus_one = record { level = record { 0 = 0 }; add = 1 }
