use Rattle.std.proofs.Common.{◌≡◌, [], map, arith}
use Rattle.std.proofs.lemmas.Grind.{common_steps}
use Rattle.std.proofs.lemmas.Result.{err_from_is_err_and}
use Rattle.pc_rules.proofs.Following.{follows_memory}
use Rattle.guard_check.specs.Tasks.{to_find}
use Rattle.guard_check.proofs.FoundRuns.{each_smaller_leaves, last_stops, last_other, last_smaller, none_left, last_memory}
use Rattle.guard_check.proofs.guard.Guard.all_smaller.Goals as goal

pub loop-init : goal.loop-init
loop-init g c = λ r n f. f

pub returns-in_default : goal.returns-in_default
returns-in_default g c =
    let z : c.pop.new.self.items ≡ [] = grind (arith, common_steps) in
    record { follows = c.loop.invariant _ _ (none_left _ _ _ _ c.loop.m c.in_default.ensures.items z) }

pub returns-in_err-whnf : goal.returns-in_err-whnf
returns-in_err-whnf g c =
    let p = err_from_is_err_and c.from_residual.result c.from_residual.ensures.1 in
    record { follows = rw (p.1, p.2) (c.loop.invariant _ _ (last_stops _ _ _ c.pop.new.self.items c.in-Some.task c.in-Some.ensures.items _ c.loop.m c.whnf.new.m c.in_err-whnf.ensures.follows)) }

pub returns-in_default-head_mark : goal.returns-in_default-head_mark
returns-in_default-head_mark g c =
    record {
      follows = c.loop.invariant _ _ (last_other _ _ _ c.pop.new.self.items c.in-Some.task c.in-Some.ensures.items c.in_ok-whnf.whnf c.head_mark.result c.loop.m c.whnf.new.m
          c.in_ok-whnf.ensures.follows c.head_mark.ensures.is c.in_default-head_mark.not-Smaller);
    }

pub returns-in_err-push_branches : goal.returns-in_err-push_branches
returns-in_err-push_branches g c =
    let p = err_from_is_err_and c.from_residual-in_err-push_branches.result c.from_residual-in_err-push_branches.ensures.1 in
    record { follows = rw (p.1, p.2, c.in_err-push_branches.ensures.only_memory) (c.loop.invariant _ _ (last_memory _ _ _ c.pop.new.self.items c.in-Some.task c.in-Some.ensures.items c.in_ok-whnf.whnf c.loop.m c.whnf.new.m c.in_ok-whnf.ensures.follows)) }

pub loop-preserved : goal.loop-preserved
loop-preserved g c = λ r n f. c.loop.invariant r n
    (last_smaller _ _ _ c.pop.new.self.items c.in-Some.task c.in-Some.ensures.items c.in_ok-whnf.whnf _ r c.loop.m c.whnf.new.m n
    c.in_ok-whnf.ensures.follows c.in-Smaller.ensures.is c.in_ok-push_branches.ensures.pushed f)

pub returns : goal.returns
returns g c = record { follows = c.loop.invariant _ _ (follows_memory _ c.loop.m (each_smaller_leaves c.args.env.now c.args.recursive (map to_find c.loop.tasks.items) c.loop.m.account)) }
