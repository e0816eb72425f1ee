use Rattle.std.proofs.Common.{arith, rules}
use Rattle.dump_printer.specs.CanonicalTerms.{part}
use Rattle.dump_printer.proofs.Lists.{each-drop, each-end, along}
use Rattle.dump_printer.proofs.sorts.write_parts.Goals as goal

pub loop-e-preserved : goal.loop-e-preserved
loop-e-preserved g c = λ s more h.
    c.write_part.ensures.goes s _ (along (each-drop (part c.args.levels.now) c.args.parts.now c.loop-e.e-index _ more (search rules)) (c.loop-e.invariant s more h))

pub returns : goal.returns
returns g c = record { goes = λ s more h. along (each-end (part c.args.levels.now) c.args.parts.now c.loop-e.e-index more (omega arith)) (c.loop-e.invariant s more h) }
