use Rattle.source_limits.proofs.NormalCaptures.{normal_captures}
use Rattle.source_limits.proofs.SaturatedCaptures.{saturated_captures, words_captures}
use Rattle.source_limits.proofs.captured_words_are_few.Goals as goal

pub returns-clause-normal : goal.returns-clause-normal
returns-clause-normal c = normal_captures

pub returns-clause-saturated : goal.returns-clause-saturated
returns-clause-saturated c = saturated_captures

pub returns-clause-words : goal.returns-clause-words
returns-clause-words c = words_captures
