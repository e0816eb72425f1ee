use Rattle.std.proofs.Common.{arith}
use Rattle.dump_printer.specs.Canonical.{declaration}
use Rattle.dump_printer.proofs.Lists.{each-item, each-end, along}
use Rattle.dump_printer.proofs.declarations.write_declarations.Goals as goal

pub loop-d-preserved : goal.loop-d-preserved
loop-d-preserved g c = record {
  items = c.loop-d.invariant.items;
  goes = λ s more h.
      c.write_declaration.ensures.goes s _ (along (each-item (declaration c.args.env.now.names c.args.env.now.level_names) c.as_slice-d-items.result.now c.loop-d.d-index c.d-item.result more c.d-item.is c.loop-d-test.true) (c.loop-d.invariant.goes s more h));
}

pub returns : goal.returns
returns g c = record { goes = λ s more h. along (each-end (declaration c.args.env.now.names c.args.env.now.level_names) c.as_slice-d-items.result.now c.loop-d.d-index more (omega arith)) (c.loop-d.invariant.goes s more h) }
