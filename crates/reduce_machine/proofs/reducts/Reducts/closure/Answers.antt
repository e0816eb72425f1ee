use Rattle.std.proofs.Common.{ap, length}
use Rattle.reduce_machine.proofs.Closing.{alone_read, closure_read}
use Rattle.reduce_machine.proofs.Meetings.{are_none}
use Rattle.reduce_machine.proofs.reducts.Reducts.closure.Goals as goal

pub returns-then-is_alone-clause-ok : goal.returns-then-is_alone-clause-ok
returns-then-is_alone-clause-ok c =
    alone_read c.args.value.now _ c.in_ok-head.head c.in-Open.is (are_none c.is_alone.result c.args.value.now.spine.args.items c.is_alone.ensures.is c.if-is_alone.true)
    c.in_ok-head.ensures.ok

pub returns-clause-ok : goal.returns-clause-ok
returns-clause-ok c =
    let b = rw c.as_slice-items.ensures.value at c.in_ok-env.ensures.ok in
    closure_read c.args.value.now _ (record { term = c.in_ok-term.term; env = c.in_ok-env.env }) c.in-Construct.field-0 c.in-Construct.field-1 _ c.in-Open.is
    (rw c.in-Construct.is at c.view.ensures.is) (ap length c.as_slice-items.ensures.value) c.in_ok-term.ensures.ok b
