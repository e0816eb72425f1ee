-- The level at a place of a list of level expressions.
use Rattle.std.specs.Prelude.{ℕ, List, slice_index_or}
use Rattle.universe_levels.specs.declared.level.LevelExpr.{LevelExpr}

-- the number of the level at the place, and 0 past the end
abbrev pub level_at : List LevelExpr → ℕ → ℕ
level_at ps k = (slice_index_or ps k (record { level = record { 0 = 0 }; add = 0 })).level.0
