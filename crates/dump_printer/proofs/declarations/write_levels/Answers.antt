use Rattle.std.proofs.Common.{arith}
use Rattle.dump_printer.specs.Canonical.{level}
use Rattle.dump_printer.proofs.Lists.{each-drop, each-end, along}
use Rattle.dump_printer.proofs.declarations.write_levels.Goals as goal

pub loop-l-preserved : goal.loop-l-preserved
loop-l-preserved g c = record {
  items = c.loop-l.invariant.items;
  goes = λ s more h.
      c.write_name.ensures.goes s _ (along (each-drop (level c.args.names.now) c.as_slice-l-items.result.now c.loop-l.l-index _ more c.loop-l-test.true) (c.loop-l.invariant.goes s more h));
}

pub returns : goal.returns
returns g c = record { goes = λ s more h. along (each-end (level c.args.names.now) c.as_slice-l-items.result.now c.loop-l.l-index more (omega arith)) (c.loop-l.invariant.goes s more h) }
