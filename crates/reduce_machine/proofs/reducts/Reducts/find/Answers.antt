use Rattle.std.proofs.Common.{◌<◌, length, refl, arith}
use Rattle.reduce_machine.proofs.Keeping.{reduct_at, reduct_known}
use Rattle.reduce_machine.proofs.Meetings.{truly}
use Rattle.reduce_machine.proofs.reducts.Reducts.find.Goals as goal

pub returns-then-is_of-clause-is : goal.returns-then-is_of-clause-is
returns-then-is_of-clause-is c = λ E V t h p.
    let lt : c.hint-at.result < length c.as_slice-reducts.result.now = grind arith in
    let s = rw (← c.as_slice-reducts.ensures.value) at h in
    reduct_known E V c.index-reducts-at.result c.args.memo.now _ t (reduct_at E V c.as_slice-reducts.result.now c.hint-at.result c.index-reducts-at.result s (cc) lt)
    (c.is_of.ensures.is (truly _ c.if-is_of.true)) p refl c.in_ok-term.ensures.ok
