use Rattle.std.proofs.Common.{sym}
use Rattle.dump_printer.proofs.Cuts.{whole}
use Rattle.dump_printer.proofs.Lists.{along}
use Rattle.dump_printer.proofs.terms.write_term.Goals as goal

pub returns : goal.returns
returns g c =
    let goes = rw c.depth.ensures.is at c.write_cut.ensures.goes in
    record { goes = λ s more h. goes s more (along (sym (whole c.args.env.now.names c.args.env.now.level_names c.args.t.now more)) h) }
