use Rattle.std.proofs.Common.{[]}
use Rattle.dump_printer.specs.CanonicalTerms.{sort}
use Rattle.dump_printer.proofs.Finished.{start_of, begun, all-out}
use Rattle.dump_printer.proofs.text.write_shown_sort.Goals as goal

pub returns-else-at : goal.returns-else-at
returns-else-at g c =
    let ts = sort c.args.env.now.level_names c.args.s.now [] in
    record { all = all-out _ _ _ _ (c.write_sort.ensures.goes (start_of (g.K.Sink.taken c.args.out.now) (g.K.Sink.faults c.args.out.now) ts) [] (begun _ _ ts)) c.if-at.false }
