use Rattle.std.proofs.Common.{arith}
use Rattle.dump_printer.specs.Canonical.{binding}
use Rattle.dump_printer.proofs.Lists.{each-item, each-end, along}
use Rattle.dump_printer.proofs.declarations.write_bindings.Goals as goal

pub loop-ty-preserved : goal.loop-ty-preserved
loop-ty-preserved g c = record {
  items = c.loop-ty.invariant.items;
  goes = λ s more h.
      c.write_binding.ensures.goes s _ (along (each-item (binding c.args.env.now.names c.args.env.now.level_names) c.as_slice-ty-items.result.now c.loop-ty.ty-index c.ty-item.result more c.ty-item.is c.loop-ty-test.true) (c.loop-ty.invariant.goes s more h));
}

pub returns : goal.returns
returns g c = record { goes = λ s more h. along (each-end (binding c.args.env.now.names c.args.env.now.level_names) c.as_slice-ty-items.result.now c.loop-ty.ty-index more (omega arith)) (c.loop-ty.invariant.goes s more h) }
