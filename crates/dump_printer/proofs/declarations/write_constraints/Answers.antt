use Rattle.std.proofs.Common.{arith}
use Rattle.dump_printer.specs.Canonical.{constraint}
use Rattle.dump_printer.proofs.Lists.{each-drop, each-end, along}
use Rattle.dump_printer.proofs.declarations.write_constraints.Goals as goal

pub loop-c-preserved : goal.loop-c-preserved
loop-c-preserved g c = record {
  items = c.loop-c.invariant.items;
  goes = λ s more h.
      c.write_constraint.ensures.goes s _ (along (each-drop (constraint c.args.names.now) c.as_slice-c-items.result.now c.loop-c.c-index _ more c.loop-c-test.true) (c.loop-c.invariant.goes s more h));
}

pub returns : goal.returns
returns g c = record { goes = λ s more h. along (each-end (constraint c.args.names.now) c.as_slice-c-items.result.now c.loop-c.c-index more (omega arith)) (c.loop-c.invariant.goes s more h) }
