use Rattle.std.proofs.Common.{◌≡◌, [], map, arith}
use Rattle.std.proofs.lemmas.Grind.{common_steps}
use Rattle.std.proofs.lemmas.Result.{err_from_is_err_and}
use Rattle.pc_rules.proofs.Following.{follows_memory}
use Rattle.inductive_check.specs.Waiting.{waiting}
use Rattle.inductive_check.proofs.InTurn.{each_leaves}
use Rattle.inductive_check.proofs.Looping.{none_waits, test_stops, test_fails, test_goes}
use Rattle.inductive_check.proofs.positivity.all_good.Goals as goal

pub loop-init : goal.loop-init
loop-init c = λ r n f. f

pub returns-in_default : goal.returns-in_default
returns-in_default c =
    let z : c.pop.new.self.items ≡ [] = grind (arith, common_steps) in
    record { follows = c.loop.invariant _ _ (none_waits _ _ _ c.loop.m c.in_default.ensures.items z) }

pub returns-in_err-one_good : goal.returns-in_err-one_good
returns-in_err-one_good c =
    let p = err_from_is_err_and c.from_residual.result c.from_residual.ensures.1 in
    record { follows = rw (p.1, p.2) (c.loop.invariant _ _ (test_stops c.args.env.now c.loop.tests.items c.pop.new.self.items c.in-Some.test c.in-Some.ensures.items _ c.loop.m c.one_good.new.m c.in_err-one_good.ensures.stops)) }

pub returns-then-not-branch : goal.returns-then-not-branch
returns-then-not-branch c = record {
  follows = c.loop.invariant _ _ (test_fails c.args.env.now c.loop.tests.items c.pop.new.self.items c.in-Some.test c.in-Some.ensures.items (map waiting c.one_good.new.tests.items) c.loop.m c.one_good.new.m c.in_ok-one_good.field-0 c.if-not-branch.true c.in_ok-one_good.ensures.goes);
}

pub loop-preserved : goal.loop-preserved
loop-preserved c = λ r n f.
    c.loop.invariant r n
    (test_goes c.args.env.now c.loop.tests.items c.pop.new.self.items c.in-Some.test c.in-Some.ensures.items (map waiting c.one_good.new.tests.items) c.loop.m c.one_good.new.m c.in_ok-one_good.field-0 c.if-not-branch.false c.in_ok-one_good.ensures.goes r n f)

pub returns : goal.returns
returns c = record { follows = c.loop.invariant _ _ (follows_memory _ c.loop.m (each_leaves c.args.env.now (map waiting c.loop.tests.items) c.loop.m.account)) }
