use Rattle.lazy_conversion.proofs.ValueHeads.{no_case, no_open_match, stuck_head, no_case_node}
use Rattle.lazy_conversion.proofs.stuck.stuck_match.Goals as goal

pub returns-in_default-clause-is : goal.returns-in_default-clause-is
returns-in_default-clause-is c = no_case c.args.x c.requires c.in_default.not-Match

pub returns-in_default-inner-clause-is : goal.returns-in_default-inner-clause-is
returns-in_default-inner-clause-is c = absurd (no_open_match c.args.x _ c.in-Match.is c.in_default-inner.ensures.none)

pub returns-in-Case-clause-is : goal.returns-in-Case-clause-is
returns-in-Case-clause-is c =
    let e = rw c.in-Case.is at c.view.ensures.is in
    rw (← c.get.ensures.is) at (stuck_head c.args.x c.in-Some.scrut c.in-Match.l c.in-Case.outer c.in-Some.ensures.some c.in-Match.is e)

pub returns-in_default-view-clause-is : goal.returns-in_default-view-clause-is
returns-in_default-view-clause-is c = absurd (no_case_node c.args.x c.in-Some.scrut _ c.view.result.now c.in-Some.ensures.some c.in-Match.is c.view.ensures.is c.in_default-view.not-Case)
