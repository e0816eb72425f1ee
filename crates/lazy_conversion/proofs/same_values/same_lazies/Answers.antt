use Rattle.reduce_machine.proofs.Standing.{walk_read}
use Rattle.lazy_conversion.proofs.Deepening.{answered}
use Rattle.lazy_conversion.proofs.SameSpines.{lazies_same, both_beyond}
use Rattle.lazy_conversion.proofs.same_values.same_lazies.Goals as goal

pub returns-clause-ok : goal.returns-clause-ok
returns-clause-ok c =
    answered _ _ c.same_parts.result (λ r h. lazies_same c.args.a.now.env.items c.args.b.now.env.items c.args.a.now.term c.args.b.now.term r h) c.same_parts.ensures.ok

pub returns-clause-too_deep : goal.returns-clause-too_deep
returns-clause-too_deep c =
    both_beyond _ _ _ _ c.same_parts.result (walk_read c.args.a.now.env.items c.args.a.now.term) (walk_read c.args.b.now.env.items c.args.b.now.term) c.same_parts.ensures.too_deep
