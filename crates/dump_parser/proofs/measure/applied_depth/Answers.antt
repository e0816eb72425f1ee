use Rattle.std.proofs.Common.{◌≡◌, [], drop, sym, ◌∙◌, ap}
use Rattle.std.proofs.Math.ListN.{drop_of_length-le}
use Rattle.dump_parser.proofs.Depths.{deepened, deepened-applied}
use Rattle.dump_parser.proofs.measure.applied_depth.Goals as goal

pub returns : goal.returns
returns c = record {
  is = λ f e.
      let none : drop c.loop-t.t-index c.args.more.now ≡ [] = drop_of_length-le c.args.more.now c.loop-t-test.false in
      ap (deepened c.loop-t.deep) (sym none) ∙ c.loop-t.invariant.same ∙ ap (λ d. deepened d c.args.more.now) (sym e) ∙ deepened-applied f c.args.more.now;
}
