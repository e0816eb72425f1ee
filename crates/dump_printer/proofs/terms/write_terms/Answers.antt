use Rattle.std.proofs.Common.{arith, false}
use Rattle.dump_printer.specs.CanonicalTerms.{term}
use Rattle.dump_printer.proofs.Lists.{each-item, each-end, along}
use Rattle.dump_printer.proofs.terms.write_terms.Goals as goal

pub loop-t-preserved : goal.loop-t-preserved
loop-t-preserved g c = record {
  items = c.loop-t.invariant.items;
  goes = λ s more h.
      c.write_term.ensures.goes s _ (along (each-item (term false c.args.env.now.names c.args.env.now.level_names) c.as_slice-t-items.result.now c.loop-t.t-index c.t-item.result more c.t-item.is c.loop-t-test.true) (c.loop-t.invariant.goes s more h));
}

pub returns : goal.returns
returns g c = record { goes = λ s more h. along (each-end (term false c.args.env.now.names c.args.env.now.level_names) c.as_slice-t-items.result.now c.loop-t.t-index more (omega arith)) (c.loop-t.invariant.goes s more h) }
