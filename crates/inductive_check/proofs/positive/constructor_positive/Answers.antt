use Rattle.std.proofs.Common.{◌≡◌, not}
use Rattle.std.proofs.lemmas.Result.{err_from_is_err_and}
use Rattle.calculus_rules.specs.declared.target.Target.TheVariants.{Families}
use Rattle.calculus_rules.specs.Naming.{some_names}
use Rattle.pc_rules.specs.DirectedRun.{done}
use Rattle.pc_rules.specs.DirectedPositivity.{types_positive}
use Rattle.pc_rules.proofs.Fair.{same_left}
use Rattle.pc_rules.proofs.Following.{follows_done}
use Rattle.inductive_check.proofs.EachItem.{first_stops, first_fails, first_holds}
use Rattle.inductive_check.proofs.positive.constructor_positive.Goals as goal

pub returns-in_err-types_positive : goal.returns-in_err-types_positive
returns-in_err-types_positive c =
    let p = err_from_is_err_and c.from_residual.result c.from_residual.ensures.1 in
    record {
      follows = rw (p.1, p.2) (first_stops (types_positive c.args.env.now c.args.block c.args.ctor.now.args c.args.m.now.account)
          (λ v. done (not (some_names (Families c.args.block) 0 c.args.ctor.now.result)) v) c.args.m.now c.types_positive.new.m _ c.in_err-types_positive.ensures.follows (λ v. same_left v));
    }

pub returns-then-not-branch : goal.returns-then-not-branch
returns-then-not-branch c = record {
  follows = first_fails (types_positive c.args.env.now c.args.block c.args.ctor.now.args c.args.m.now.account)
      (λ v. done (not (some_names (Families c.args.block) 0 c.args.ctor.now.result)) v) c.args.m.now c.types_positive.new.m _ c.if-not-branch.true c.in_ok-types_positive.ensures.follows;
}

pub returns : goal.returns
returns c =
    let named = some_names (Families c.args.block) 0 c.args.ctor.now.result in
    let is : c.some_names.result ≡ named = rw (← c.as_slice.ensures.is) c.some_names.ensures.is in
    record {
      follows = rw is (first_holds (types_positive c.args.env.now c.args.block c.args.ctor.now.args c.args.m.now.account) (λ v. done (not named) v) c.args.m.now c.types_positive.new.m _
          c.if-not-branch.false c.in_ok-types_positive.ensures.follows _ _ (follows_done (not named) c.types_positive.new.m));
    }
