use Rattle.std.proofs.Common.{◌∙◌, sym}
use Rattle.first_order.proofs.ConstructorNames.{has_it, has_another, has_none}
use Rattle.first_order.proofs.given.constructor_of_name.Goals as goal

pub returns-then-has_name : goal.returns-then-has_name
returns-then-has_name c = record {
  is = c.loop-i.invariant ∙ has_it c.args.names.now c.args.name.now c.args.ctors.now c.loop-i.i c.index-ctors-i.result c.loop-i-test.true c.index-ctors-i.is (sym c.has_name.ensures.is ∙ c.if-has_name.true);
}

pub loop-i-preserved : goal.loop-i-preserved
loop-i-preserved c =
    c.loop-i.invariant ∙ has_another c.args.names.now c.args.name.now c.args.ctors.now c.loop-i.i c.index-ctors-i.result c.loop-i-test.true c.index-ctors-i.is (sym c.has_name.ensures.is ∙ c.if-has_name.false)

pub returns : goal.returns
returns c = record { is = c.loop-i.invariant ∙ has_none c.args.names.now c.args.name.now c.args.ctors.now c.loop-i.i c.loop-i-test.false }
