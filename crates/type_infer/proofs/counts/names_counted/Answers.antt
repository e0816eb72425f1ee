use Rattle.std.proofs.Common.{rules, arith, ◌<◌, ◌≤◌, min, length, Ok, Err}
use Rattle.std.proofs.lemmas.Result.{err_from_is_err_and}
use Rattle.type_infer.proofs.MatchLists.{names_next, names_stop, names_end}
use Rattle.type_infer.proofs.counts.names_counted.Goals as goal

pub loop-i-preserved : goal.loop-i-preserved
loop-i-preserved c =
    let h : c.loop-i.i < length c.as_slice-listed.result.now = grind arith in
    let k : c.loop-i.i < length c.as_slice-bodies.result.now = grind arith in
    let f = rw (c.len.ensures.is, ← c.index-listed-i.is, ← c.index-bodies-i.is) at c.in_ok-counted.ensures.answers in
    λ u r x. c.loop-i.invariant u r (names_next _ _ c.loop-i.i c.index-listed-i.result c.index-bodies-i.result u r h k c.index-listed-i.is c.index-bodies-i.is (f u) x)

pub returns-in_err-counted : goal.returns-in_err-counted
returns-in_err-counted c =
    let h : c.loop-i.i < length c.as_slice-listed.result.now = grind arith in
    let k : c.loop-i.i < length c.as_slice-bodies.result.now = grind arith in
    let p = err_from_is_err_and c.from_residual.result c.from_residual.ensures.1 in
    let f = rw (c.len.ensures.is, ← c.index-listed-i.is, ← c.index-bodies-i.is) at c.in_err-counted.ensures.answers in
    rw (p.1, p.2) (record {
      answers = λ u. rw (← c.as_slice-listed.ensures.is, ← c.as_slice-bodies.ensures.is) (c.loop-i.invariant u (Err c.in_err-counted.field-0.0)
          (names_stop _ _ c.loop-i.i c.index-listed-i.result c.index-bodies-i.result u c.in_err-counted.field-0.0 h k c.index-listed-i.is c.index-bodies-i.is (f u)));
    })

pub returns : goal.returns
returns c =
    let h : min (length c.as_slice-listed.result.now) (length c.as_slice-bodies.result.now) ≤ c.loop-i.i = search rules in
    record { answers = λ u. rw (← c.as_slice-listed.ensures.is, ← c.as_slice-bodies.ensures.is) (c.loop-i.invariant u (Ok tt) (names_end _ _ c.loop-i.i u h)) }
