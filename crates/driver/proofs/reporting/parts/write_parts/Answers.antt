use Rattle.std.proofs.Common.{◌++◌, Some}
use Rattle.std.proofs.lemmas.Result.{on_ok_weaker}
use Rattle.driver.proofs.PartByPart.{err_anyway, fault_later, line_ends, line_stops, line_then, part_by_history, rose_later}
use Rattle.driver.proofs.reporting.parts.write_parts.Goals as goal
use Rattle.kio.proofs.Bytes.{tells-again}
use Rattle.dump_printer.proofs.Written.{appends_both}

pub returns-in_err-write_all-clause-line : goal.returns-in_err-write_all-clause-line
returns-in_err-write_all-clause-line g c =
    let e = c.in_err-write_all.ensures in
    line_stops _ _ _ _ _ c.args.front.now (c.args.digits.now ++ (c.args.place.now ++ (c.args.name.now ++ c.args.end.now))) e.part.0 e.part.1 e.cause.later e.cause.failed

pub returns-in_err-write_all-clause-fault : goal.returns-in_err-write_all-clause-fault
returns-in_err-write_all-clause-fault g c = err_anyway _ c.in_err-write_all.ensures.cause.failed

pub returns-in_err-write_all-2-clause-fault : goal.returns-in_err-write_all-2-clause-fault
returns-in_err-write_all-2-clause-fault g c = err_anyway _ (rose_later _ _ _ c.in_ok-write_all.ensures.cause.later c.in_err-write_all-2.ensures.cause.failed)

pub returns-in_err-write_all-3-clause-fault : goal.returns-in_err-write_all-3-clause-fault
returns-in_err-write_all-3-clause-fault g c =
    err_anyway _ (rose_later _ _ _ c.in_ok-write_all.ensures.cause.later (rose_later _ _ _ c.in_ok-write_all-2.ensures.cause.later c.in_err-write_all-3.ensures.cause.failed))

pub returns-in_err-write_all-4-clause-fault : goal.returns-in_err-write_all-4-clause-fault
returns-in_err-write_all-4-clause-fault g c =
    err_anyway _ (rose_later _ _ _ c.in_ok-write_all.ensures.cause.later (rose_later _ _ _ c.in_ok-write_all-2.ensures.cause.later
    (rose_later _ _ _ c.in_ok-write_all-3.ensures.cause.later c.in_err-write_all-4.ensures.cause.failed)))

pub returns-in_err-write_all-2-clause-line : goal.returns-in_err-write_all-2-clause-line
returns-in_err-write_all-2-clause-line g c =
    let w = c.in_ok-write_all.ensures in
    let e = c.in_err-write_all-2.ensures in
    let rest = c.args.place.now ++ (c.args.name.now ++ c.args.end.now) in
    line_then _ _ _ _ _ _ c.args.front.now (c.args.digits.now ++ rest) w.all w.cause.later (line_stops _ _ _ _ _ c.args.digits.now rest e.part.0 e.part.1 e.cause.later e.cause.failed)

pub returns-in_err-write_all-2-clause-tells : goal.returns-in_err-write_all-2-clause-tells
returns-in_err-write_all-2-clause-tells g c = tells-again _ _ _ c.in_ok-write_all.ensures.tells c.in_err-write_all-2.ensures.tells

pub returns-in_err-write_all-3-clause-line : goal.returns-in_err-write_all-3-clause-line
returns-in_err-write_all-3-clause-line g c =
    let w = c.in_ok-write_all.ensures in
    let x = c.in_ok-write_all-2.ensures in
    let e = c.in_err-write_all-3.ensures in
    let rest = c.args.name.now ++ c.args.end.now in
    line_then _ _ _ _ _ _ c.args.front.now (c.args.digits.now ++ (c.args.place.now ++ rest)) w.all w.cause.later (line_then _ _ _ _ _ _ c.args.digits.now (c.args.place.now ++ rest) x.all x.cause.later
    (line_stops _ _ _ _ _ c.args.place.now rest e.part.0 e.part.1 e.cause.later e.cause.failed))

pub returns-in_err-write_all-3-clause-tells : goal.returns-in_err-write_all-3-clause-tells
returns-in_err-write_all-3-clause-tells g c = tells-again _ _ _ c.in_ok-write_all.ensures.tells (tells-again _ _ _ c.in_ok-write_all-2.ensures.tells c.in_err-write_all-3.ensures.tells)

pub returns-in_err-write_all-4-clause-line : goal.returns-in_err-write_all-4-clause-line
returns-in_err-write_all-4-clause-line g c =
    let w = c.in_ok-write_all.ensures in
    let x = c.in_ok-write_all-2.ensures in
    let y = c.in_ok-write_all-3.ensures in
    let e = c.in_err-write_all-4.ensures in
    let rest = c.args.name.now ++ c.args.end.now in
    line_then _ _ _ _ _ _ c.args.front.now (c.args.digits.now ++ (c.args.place.now ++ rest)) w.all w.cause.later (line_then _ _ _ _ _ _ c.args.digits.now (c.args.place.now ++ rest) x.all x.cause.later
    (line_then _ _ _ _ _ _ c.args.place.now rest y.all y.cause.later (line_stops _ _ _ _ _ c.args.name.now c.args.end.now e.part.0 e.part.1 e.cause.later e.cause.failed)))

pub returns-in_err-write_all-4-clause-tells : goal.returns-in_err-write_all-4-clause-tells
returns-in_err-write_all-4-clause-tells g c =
    tells-again _ _ _ c.in_ok-write_all.ensures.tells (tells-again _ _ _ c.in_ok-write_all-2.ensures.tells (tells-again _ _ _ c.in_ok-write_all-3.ensures.tells c.in_err-write_all-4.ensures.tells))

pub returns-in_err-write_all-clause-history_line : goal.returns-in_err-write_all-clause-history_line
returns-in_err-write_all-clause-history_line g c =
    let e = c.in_err-write_all.ensures in
    line_stops _ _ _ _ _ c.args.front.now (c.args.digits.now ++ (c.args.place.now ++ (c.args.name.now ++ c.args.end.now))) e.part.0 e.received_part e.cause.later e.cause.failed

pub returns-in_err-write_all-2-clause-history_line : goal.returns-in_err-write_all-2-clause-history_line
returns-in_err-write_all-2-clause-history_line g c =
    let w = c.in_ok-write_all.ensures in
    let e = c.in_err-write_all-2.ensures in
    line_then _ (Some (g.E.Sink.received c.write_all.new.out)) _ _ _ _ c.args.front.now (c.args.digits.now ++ (c.args.place.now ++ (c.args.name.now ++ c.args.end.now))) w.received w.cause.later
    (line_stops _ _ _ _ _ c.args.digits.now (c.args.place.now ++ (c.args.name.now ++ c.args.end.now)) e.part.0 e.received_part e.cause.later e.cause.failed)

pub returns-in_err-write_all-3-clause-history_line : goal.returns-in_err-write_all-3-clause-history_line
returns-in_err-write_all-3-clause-history_line g c =
    let w = c.in_ok-write_all.ensures in
    let x = c.in_ok-write_all-2.ensures in
    let e = c.in_err-write_all-3.ensures in
    line_then _ (Some (g.E.Sink.received c.write_all.new.out)) _ _ _ _ c.args.front.now (c.args.digits.now ++ (c.args.place.now ++ (c.args.name.now ++ c.args.end.now))) w.received w.cause.later
    (line_then _ (Some (g.E.Sink.received c.write_all-2.new.out)) _ _ _ _ c.args.digits.now (c.args.place.now ++ (c.args.name.now ++ c.args.end.now)) x.received x.cause.later
    (line_stops _ _ _ _ _ c.args.place.now (c.args.name.now ++ c.args.end.now) e.part.0 e.received_part e.cause.later e.cause.failed))

pub returns-in_err-write_all-4-clause-history_line : goal.returns-in_err-write_all-4-clause-history_line
returns-in_err-write_all-4-clause-history_line g c =
    let w = c.in_ok-write_all.ensures in
    let x = c.in_ok-write_all-2.ensures in
    let y = c.in_ok-write_all-3.ensures in
    let e = c.in_err-write_all-4.ensures in
    line_then _ (Some (g.E.Sink.received c.write_all.new.out)) _ _ _ _ c.args.front.now (c.args.digits.now ++ (c.args.place.now ++ (c.args.name.now ++ c.args.end.now))) w.received w.cause.later
    (line_then _ (Some (g.E.Sink.received c.write_all-2.new.out)) _ _ _ _ c.args.digits.now (c.args.place.now ++ (c.args.name.now ++ c.args.end.now)) x.received x.cause.later
    (line_then _ (Some (g.E.Sink.received c.write_all-3.new.out)) _ _ _ _ c.args.place.now (c.args.name.now ++ c.args.end.now) y.received y.cause.later
    (line_stops _ _ _ _ _ c.args.name.now c.args.end.now e.part.0 e.received_part e.cause.later e.cause.failed)))

pub returns : goal.returns
returns g c =
    let w = c.in_ok-write_all.ensures in
    let x = c.in_ok-write_all-2.ensures in
    let y = c.in_ok-write_all-3.ensures in
    let z = c.in_ok-write_all-4.ensures in
    let e = c.write_all-5.ensures in
    let rest = c.args.name.now ++ c.args.end.now in
    record {
      all = on_ok_weaker c.write_all-5.result
          (λ h. appends_both _ _ _ c.args.front.now (c.args.digits.now ++ (c.args.place.now ++ rest)) w.all
          (appends_both _ _ _ c.args.digits.now (c.args.place.now ++ rest) x.all (appends_both _ _ _ c.args.place.now rest y.all (appends_both _ _ _ c.args.name.now c.args.end.now z.all h)))) e.all;
      fault = fault_later _ _ _ _ w.cause.later (fault_later _ _ _ _ x.cause.later (fault_later _ _ _ _ y.cause.later (fault_later _ _ _ _ z.cause.later e.cause.failed)));
      line = line_then _ _ _ _ _ _ c.args.front.now (c.args.digits.now ++ (c.args.place.now ++ rest)) w.all w.cause.later (line_then _ _ _ _ _ _ c.args.digits.now (c.args.place.now ++ rest) x.all x.cause.later
          (line_then _ _ _ _ _ _ c.args.place.now rest y.all y.cause.later (line_then _ _ _ _ _ _ c.args.name.now c.args.end.now z.all z.cause.later (line_ends _ _ _ _ c.args.end.now c.write_all-5.result e.all e.part e.cause))));
      tells =
          tells-again _ _ _ w.tells (tells-again _ _ _ x.tells (tells-again _ _ _ y.tells (tells-again _ _ _ z.tells e.tells)));
      history_all = on_ok_weaker c.write_all-5.result
          (λ h. appends_both (Some (g.E.Sink.received c.args.err.now)) (Some (g.E.Sink.received c.write_all.new.out)) (Some (g.E.Sink.received c.write_all-5.new.out)) c.args.front.now (c.args.digits.now ++ (c.args.place.now ++ (c.args.name.now ++ c.args.end.now))) w.received
          (appends_both (Some (g.E.Sink.received c.write_all.new.out)) (Some (g.E.Sink.received c.write_all-2.new.out)) (Some (g.E.Sink.received c.write_all-5.new.out)) c.args.digits.now (c.args.place.now ++ (c.args.name.now ++ c.args.end.now)) x.received
          (appends_both (Some (g.E.Sink.received c.write_all-2.new.out)) (Some (g.E.Sink.received c.write_all-3.new.out)) (Some (g.E.Sink.received c.write_all-5.new.out)) c.args.place.now (c.args.name.now ++ c.args.end.now) y.received
          (appends_both (Some (g.E.Sink.received c.write_all-3.new.out)) (Some (g.E.Sink.received c.write_all-4.new.out)) (Some (g.E.Sink.received c.write_all-5.new.out)) c.args.name.now c.args.end.now z.received h)))) e.received;
      history_line = line_then _ (Some (g.E.Sink.received c.write_all.new.out)) _ _ _ _ c.args.front.now (c.args.digits.now ++ (c.args.place.now ++ (c.args.name.now ++ c.args.end.now))) w.received w.cause.later
          (line_then _ (Some (g.E.Sink.received c.write_all-2.new.out)) _ _ _ _ c.args.digits.now (c.args.place.now ++ (c.args.name.now ++ c.args.end.now)) x.received x.cause.later
          (line_then _ (Some (g.E.Sink.received c.write_all-3.new.out)) _ _ _ _ c.args.place.now (c.args.name.now ++ c.args.end.now) y.received y.cause.later
          (line_then _ (Some (g.E.Sink.received c.write_all-4.new.out)) _ _ _ _ c.args.name.now c.args.end.now z.received z.cause.later
          (line_ends _ _ _ _ c.args.end.now c.write_all-5.result e.received
          (part_by_history (g.E.Sink.taken c.write_all-4.new.out) (g.E.Sink.taken c.write_all-5.new.out) _ _ c.write_all-5.result c.args.end.now e.part e.received_part) e.cause))));
    }
