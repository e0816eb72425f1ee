use Rattle.std.proofs.Common.{sym, ◌∙◌}
use Rattle.lazy_conversion.proofs.Deepening.{answered}
use Rattle.lazy_conversion.proofs.SameSpines.{first_beyond}
use Rattle.lazy_conversion.proofs.comparison.seen_same.Goals as goal

pub returns-clause-ok : goal.returns-clause-ok
returns-clause-ok c = answered _ _ c.same_parts.result (λ r h t. sym h ∙ t) c.same_parts.ensures.ok

pub returns-clause-too_deep : goal.returns-clause-too_deep
returns-clause-too_deep c = first_beyond _ _ c.same_parts.result c.same_parts.ensures.too_deep
