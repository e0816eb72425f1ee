use Rattle.lazy_conversion.proofs.Deciding.{parts_same}
use Rattle.lazy_conversion.proofs.Deepening.{answered, faulted, deep_beyond}
use Rattle.lazy_conversion.proofs.Lifting.{lifted_nothing}
use Rattle.lazy_conversion.proofs.sameness.same_parts.Goals as goal

pub returns-clause-ok : goal.returns-clause-ok
returns-clause-ok c =
    answered _ _ c.same_at.result (λ r h. parts_same c.args.a.env.now.items c.args.b.env.now.items c.args.a.under c.args.b.under c.args.a.term.now c.args.b.term.now r h) c.same_at.ensures.ok

pub returns-clause-too_deep : goal.returns-clause-too_deep
returns-clause-too_deep c =
    let x = lifted_nothing c.args.a.env.now.items c.args.a.under c.args.a.term.now in
    let y = lifted_nothing c.args.b.env.now.items c.args.b.under c.args.b.term.now in
    faulted _ _ c.same_at.result (deep_beyond _ _ _ _ x y) c.same_at.ensures.too_deep
