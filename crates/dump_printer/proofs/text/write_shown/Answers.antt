use Rattle.std.proofs.Common.{[]}
use Rattle.dump_printer.specs.Cut.{shown_tokens}
use Rattle.dump_printer.proofs.Finished.{start_of, begun, all-out}
use Rattle.dump_printer.proofs.text.write_shown.Goals as goal

pub returns-else-at : goal.returns-else-at
returns-else-at g c =
    let ts = shown_tokens c.args.env.now.names c.args.env.now.level_names c.args.t.now in
    let goes = rw c.cut_depth.ensures.is at c.write_cut.ensures.goes in
    record { all = all-out _ _ _ _ (goes (start_of (g.K.Sink.taken c.args.out.now) (g.K.Sink.faults c.args.out.now) ts) [] (begun _ _ ts)) c.if-at.false }
