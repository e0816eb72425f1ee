use Rattle.std.proofs.Common.{arith}
use Rattle.dump_printer.specs.Canonical.{constructor}
use Rattle.dump_printer.proofs.Lists.{each-item, each-end, along}
use Rattle.dump_printer.proofs.declarations.write_ctors.Goals as goal

pub loop-c-preserved : goal.loop-c-preserved
loop-c-preserved g c = record {
  items = c.loop-c.invariant.items;
  goes = λ s more h.
      c.write_ctor.ensures.goes s _ (along (each-item (constructor c.args.env.now.names c.args.env.now.level_names) c.as_slice-c-items.result.now c.loop-c.c-index c.c-item.result more c.c-item.is c.loop-c-test.true) (c.loop-c.invariant.goes s more h));
}

pub returns : goal.returns
returns g c = record { goes = λ s more h. along (each-end (constructor c.args.env.now.names c.args.env.now.level_names) c.as_slice-c-items.result.now c.loop-c.c-index more (omega arith)) (c.loop-c.invariant.goes s more h) }
