use Rattle.std.proofs.Common.{arith}
use Rattle.dump_printer.specs.Canonical.{family}
use Rattle.dump_printer.proofs.Lists.{each-item, each-end, along}
use Rattle.dump_printer.proofs.declarations.write_families.Goals as goal

pub loop-f-preserved : goal.loop-f-preserved
loop-f-preserved g c = record {
  items = c.loop-f.invariant.items;
  goes = λ s more h.
      c.write_raw_family.ensures.goes s _ (along (each-item (family c.args.env.now.names c.args.env.now.level_names) c.as_slice-f-items.result.now c.loop-f.f-index c.f-item.result more c.f-item.is c.loop-f-test.true) (c.loop-f.invariant.goes s more h));
}

pub returns : goal.returns
returns g c = record { goes = λ s more h. along (each-end (family c.args.env.now.names c.args.env.now.level_names) c.as_slice-f-items.result.now c.loop-f.f-index more (omega arith)) (c.loop-f.invariant.goes s more h) }
