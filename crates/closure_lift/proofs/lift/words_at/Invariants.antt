use Rattle.std.proofs.Common.{◌≡◌, take}
use Rattle.closure_lift.specs.FreeVariables.{level_words, all_words}
use Rattle.closure_lift.proofs.lift.words_at.Given as goal

abbrev pub invariant-loop-level : goal.invariant-loop-level
invariant-loop-level l = l.names.items ≡ all_words (level_words l.variables.0) (take l.level-index l.level-items)
