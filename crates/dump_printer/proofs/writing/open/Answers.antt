use Rattle.std.proofs.Common.{true}
use Rattle.dump_printer.specs.Layout.{laid}
use Rattle.dump_printer.proofs.Written.{on, before-open}
use Rattle.dump_printer.proofs.writing.open.Goals as goal

pub returns : goal.returns
returns g c = record { goes = λ s more h. on s _ _ c.put.new.at true more (c.put.ensures.goes s (laid true more) (c.space.ensures.goes s _ (before-open s _ _ _ more h))) }
