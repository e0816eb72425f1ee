-- Each clause is a part of what `serve_whole` promises.
use Rattle.std.proofs.Common.{ap, map}
use Rattle.driver.proofs.top.serve.Goals as goal

pub returns-clause-done : goal.returns-clause-done
returns-clause-done g c = c.serve_whole.ensures.served.done

pub returns-clause-statuses : goal.returns-clause-statuses
returns-clause-statuses g c = c.serve_whole.ensures.served.statuses

pub returns-clause-refused : goal.returns-clause-refused
returns-clause-refused g c = c.serve_whole.ensures.served.refused

pub returns-clause-usage : goal.returns-clause-usage
returns-clause-usage g c = c.serve_whole.ensures.served.usage

pub returns-clause-faulty : goal.returns-clause-faulty
returns-clause-faulty g c = c.serve_whole.ensures.served.faulty

pub returns-clause-prefix : goal.returns-clause-prefix
returns-clause-prefix g c = c.serve_whole.ensures.served.prefix

pub returns-clause-judged : goal.returns-clause-judged
returns-clause-judged g c = c.serve_whole.ensures.served.judged

pub returns-clause-complete : goal.returns-clause-complete
returns-clause-complete g c = c.serve_whole.ensures.served.complete

pub returns-clause-values : goal.returns-clause-values
returns-clause-values g c = c.serve_whole.ensures.served.values

pub returns-clause-plain : goal.returns-clause-plain
returns-clause-plain g c = c.serve_whole.ensures.served.plain

pub returns-clause-named : goal.returns-clause-named
returns-clause-named g c = c.serve_whole.ensures.served.named

pub returns-clause-finishes : goal.returns-clause-finishes
returns-clause-finishes g c = c.serve_whole.ensures.served.finishes

pub returns-clause-well : goal.returns-clause-well
returns-clause-well g c = c.serve_whole.ensures.served.well

pub returns-clause-headline : goal.returns-clause-headline
returns-clause-headline g c = c.serve_whole.ensures.served.headline

pub returns-clause-bounded : goal.returns-clause-bounded
returns-clause-bounded g c = c.serve_whole.ensures.served.bounded

pub returns-clause-counted : goal.returns-clause-counted
returns-clause-counted g c = c.serve_whole.ensures.served.counted

pub returns-clause-matched : goal.returns-clause-matched
returns-clause-matched g c = c.serve_whole.ensures.served.matched

pub returns-clause-refuses_text : goal.returns-clause-refuses_text
returns-clause-refuses_text g c = c.serve_whole.ensures.served.refuses_text

pub returns-clause-refuses_length : goal.returns-clause-refuses_length
returns-clause-refuses_length g c = c.serve_whole.ensures.served.refuses_length

pub returns-clause-reported : goal.returns-clause-reported
returns-clause-reported g c = c.serve_whole.ensures.served.reported

pub returns-clause-unread : goal.returns-clause-unread
returns-clause-unread g c = c.serve_whole.ensures.served.unread

pub returns-clause-nothing_out : goal.returns-clause-nothing_out
returns-clause-nothing_out g c = c.serve_whole.ensures.served.nothing_out

pub returns-clause-quiet : goal.returns-clause-quiet
returns-clause-quiet g c = λ z none. c.serve_whole.ensures.served.quiet z (ap (λ xs. map (λ b. (goal.Report-dyn g (b.vtable, b.value)).shown b.value) xs) none)

pub returns-clause-history : goal.returns-clause-history
returns-clause-history g c = c.serve_whole.ensures.history

pub returns-clause-ended : goal.returns-clause-ended
returns-clause-ended g c = c.serve_whole.ensures.ended

pub returns-clause-counts : goal.returns-clause-counts
returns-clause-counts g c = let s = c.serve_whole.ensures.served in (s.source.count, s.sinks.0.count, s.sinks.1.count)

pub returns-clause-tells : goal.returns-clause-tells
returns-clause-tells g c = let s = c.serve_whole.ensures.served in (s.source.tells, s.sinks.0.tells, s.sinks.1.tells)
