use Rattle.std.proofs.Common.{◌∙◌, ◌++◌, ◌∷◌, [], ap, map}
use Rattle.calculus_rules.specs.declared.target.Target.TheVariants.{Families}
use Rattle.pc_rules.specs.Follows.{halted}
use Rattle.inductive_check.specs.Waiting.{waiting, type_waits}
use Rattle.inductive_check.proofs.Looping.{pushed, whole_test}
use Rattle.std.proofs.lemmas.Result.{err_from_is_err_and}
use Rattle.pc_rules.proofs.Following.{follows_memory}
use Rattle.pc_rules.proofs.FairPositivity.{good_leaves}
use Rattle.inductive_check.proofs.positivity.is_positive.Goals as goal

pub returns : goal.returns
returns c = record {
  follows = whole_test c.args.env.now (map waiting c.push.new.items.items) (Families c.args.block) 0 c.args.ty.now (halted c.all_good.result) c.args.m.now c.all_good.new.m
      (pushed c.new-tests.result.items c.push.new.items.items _ c.in_ok-push.ensures.longer ∙ ap (λ ys. map waiting ys ++ (type_waits (Families c.args.block) 0 c.args.ty.now ∷ [])) c.new-tests.ensures.items)
      c.all_good.ensures.follows;
}

pub returns-in_err-push : goal.returns-in_err-push
returns-in_err-push c =
    let p = err_from_is_err_and c.from_residual.result c.from_residual.ensures.1 in
    let u = c.args.m.now.account in
    record {
      follows = rw (p.1, p.2, c.in_err-push.ensures.only_memory) (follows_memory _ c.args.m.now (good_leaves c.args.env.now u.left (Families c.args.block) 0 c.args.ty.now u));
    }
