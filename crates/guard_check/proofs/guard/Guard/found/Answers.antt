use Rattle.std.proofs.Common.{ap, map}
use Rattle.std.proofs.lemmas.Result.{err_from_is_err_and}
use Rattle.pc_rules.proofs.Following.{follows_memory}
use Rattle.pc_rules.proofs.FairRules.{find_leaves}
use Rattle.guard_check.specs.Marks.{values_in, marks_in}
use Rattle.guard_check.specs.Tasks.{to_find}
use Rattle.guard_check.proofs.FoundRuns.{found_marked, found_branches}
use Rattle.guard_check.proofs.guard.Guard.found.Goals as goal

pub returns-in_default : goal.returns-in_default
returns-in_default g c =
    record { follows = found_marked _ _ _ _ _ c.head_mark-mark.result c.args.m.now c.requires.normal c.head_mark-mark.ensures.is c.in_default.not-Smaller }

pub returns : goal.returns
returns g c = record {
  follows = found_branches _ _ _ _ _ _ _ _ _ _ c.requires.normal c.in-Smaller.ensures.is (ap (map to_find) c.new-tasks.ensures.items) c.in_ok-push_branches.ensures.pushed
      c.all_smaller.ensures.follows;
}

pub returns-in_err-push_branches : goal.returns-in_err-push_branches
returns-in_err-push_branches g c =
    let p = err_from_is_err_and c.from_residual.result c.from_residual.ensures.1 in
    record {
      follows = rw (p.1, p.2, c.in_err-push_branches.ensures.only_memory)
          (follows_memory _ c.args.m.now (find_leaves c.args.env.now c.args.recursive c.args.m.now.account.left (values_in c.args.scope.now) (marks_in c.args.scope.now) c.args.t.now c.args.m.now.account));
    }
