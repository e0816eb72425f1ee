use Rattle.std.proofs.Common.{Some, ◌≡◌, ◌≤◌, ◌<◌, ◌+◌, refl, ap, inl, get_or, map, length, arith}
use Rattle.std.proofs.Math.Seq.{take_all}
use Rattle.driver.specs.ReportLines.{lines}
use Rattle.driver.proofs.LineByLine.{lines_more, lines_split}
use Rattle.driver.proofs.PartByPart.{appends_as, appends_none, line_cut, line_then, takes_as, tells_same}
use Rattle.driver.proofs.reporting.lines.write_lines.Goals as goal
use Rattle.kio.proofs.Bytes.{tells-again}
use Rattle.dump_printer.proofs.Written.{appends_both}

pub loop-report-init : goal.loop-report-init
loop-report-init g c = record { gone = appends_none _; history = appends_none (Some _); tells = tells_same _; later = omega arith; still = λ e. refl }

pub returns-in_err-write_line-clause-line : goal.returns-in_err-write_line-clause-line
returns-in_err-write_line-clause-line g c =
    let xs = c.args.reports.now in
    let i = c.loop-report.report-index in
    let x = c.report-item.result in
    let lt : i < length xs = grind arith in
    let is : x ≡ get_or xs i x = cc in
    let before = c.loop-report.invariant in
    let w = c.in_err-write_line.ensures in
    takes_as _ _ _ _ _ _ (lines_split (λ b. (goal.Report-dyn g (b.vtable, b.value)).shown b.value) xs i x lt is) (line_then _ _ _ _ _ _ _ _ before.gone before.later (line_cut _ _ _ _ _ _ w.line w.fault))

pub returns-in_err-write_line-clause-tells : goal.returns-in_err-write_line-clause-tells
returns-in_err-write_line-clause-tells g c = tells-again _ _ _ c.loop-report.invariant.tells c.in_err-write_line.ensures.tells

pub loop-report-preserved : goal.loop-report-preserved
loop-report-preserved g c =
    let xs = c.args.reports.now in
    let i = c.loop-report.report-index in
    let x = c.report-item.result in
    let lt : i < length xs = grind arith in
    let is : x ≡ get_or xs i x = cc in
    let before = c.loop-report.invariant in
    let w = c.in_ok-write_line.ensures in
    record {
      gone = appends_as (g.E.Sink.taken c.args.err.now) (g.E.Sink.taken c.write_line.new.err) _ _ (lines_more (λ b. (goal.Report-dyn g (b.vtable, b.value)).shown b.value) xs i (i + 1) x lt is (omega arith)) (appends_both (g.E.Sink.taken c.args.err.now)
          (g.E.Sink.taken c.loop-report.err) (g.E.Sink.taken c.write_line.new.err) _ _ before.gone w.all);
      history = appends_as (Some (g.E.Sink.received c.args.err.now)) (Some (g.E.Sink.received c.write_line.new.err)) _ _ (lines_more (λ b. (goal.Report-dyn g (b.vtable, b.value)).shown b.value) xs i (i + 1) x lt is (omega arith))
          (appends_both (Some (g.E.Sink.received c.args.err.now)) (Some (g.E.Sink.received c.loop-report.err)) (Some (g.E.Sink.received c.write_line.new.err)) _ _ before.history w.history_all);
      tells = tells-again _ _ _ before.tells w.tells;
      later = omega (arith, before.later, w.line.count);
      still = λ e. absurd (omega (arith, e));
    }

pub returns-clause-line : goal.returns-clause-line
returns-clause-line g c =
    let xs = c.args.reports.now in
    let ge : length xs ≤ c.loop-report.report-index = grind arith in
    let done = c.loop-report.invariant in
    record { count = done.later; line_or_prefix = inl (appends_as (g.E.Sink.taken c.args.err.now) (g.E.Sink.taken c.loop-report.err) _ _ (ap (λ ys. lines (map (λ b. (goal.Report-dyn g (b.vtable, b.value)).shown b.value) ys)) (take_all c.loop-report.report-index xs ge)) done.gone) }

pub returns-clause-tells : goal.returns-clause-tells
returns-clause-tells g c = c.loop-report.invariant.tells

pub returns-clause-none : goal.returns-clause-none
returns-clause-none g c = λ e.
    let none : length c.args.reports.now ≡ 0 = ap length e in
    let first : c.loop-report.report-index ≡ 0 = grind arith in
    c.loop-report.invariant.still first

pub returns-in_err-write_line-clause-history : goal.returns-in_err-write_line-clause-history
returns-in_err-write_line-clause-history g c =
    let xs = c.args.reports.now in
    let i = c.loop-report.report-index in
    let x = c.report-item.result in
    let lt : i < length xs = grind arith in
    let is : x ≡ get_or xs i x = cc in
    let before = c.loop-report.invariant in
    let w = c.in_err-write_line.ensures in
    takes_as _ _ _ _ _ _ (lines_split (λ b. (goal.Report-dyn g (b.vtable, b.value)).shown b.value) xs i x lt is) (line_then _ (Some (g.E.Sink.received c.loop-report.err)) _ _ _ _ _ _ before.history before.later (line_cut _ _ _ _ _ _ w.history_line w.fault))

pub returns-clause-history : goal.returns-clause-history
returns-clause-history g c =
    let xs = c.args.reports.now in
    let ge : length xs ≤ c.loop-report.report-index = grind arith in
    let done = c.loop-report.invariant in
    let all = ap (λ ys. lines (map (λ b. (goal.Report-dyn g (b.vtable, b.value)).shown b.value) ys)) (take_all c.loop-report.report-index xs ge) in
    record { count = done.later; line_or_prefix = inl (appends_as (Some (g.E.Sink.received c.args.err.now)) (Some (g.E.Sink.received c.loop-report.err)) _ _ all done.history) }
