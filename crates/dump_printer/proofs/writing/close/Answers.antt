use Rattle.std.proofs.Common.{false}
use Rattle.dump_printer.specs.Layout.{laid}
use Rattle.dump_printer.proofs.Written.{on, before-close}
use Rattle.dump_printer.proofs.writing.close.Goals as goal

pub returns : goal.returns
returns g c = record { goes = λ s more h. on s _ _ c.put.new.at false more (c.put.ensures.goes s (laid false more) (before-close s _ _ _ more h)) }
