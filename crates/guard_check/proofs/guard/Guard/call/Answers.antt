use Rattle.std.proofs.Common.{rules, ◌≡◌, ◌<◌}
use Rattle.pc_rules.proofs.Following.{follows_tick, follows_spent, follows_bind, follows_halted, follows_done}
use Rattle.pc_rules.proofs.Leaving.{leaving}
use Rattle.guard_check.specs.Marks.{values_in, marks_in}
use Rattle.guard_check.proofs.FoundRuns.{mark_at, call_with, argument_refused}
use Rattle.guard_check.proofs.guard.Guard.call.Goals as goal

pub returns-then-not-tick : goal.returns-then-not-tick
returns-then-not-tick g c =
    let e = mark_at c.args.scope.now.marks c.args.index _ _ c.in-Some-Recursive.ensures.at c.in-Some-Recursive.field-0-is in
    let z : c.args.m.now.account.left ≡ 0 = search rules in
    record {
      follows = call_with c.args.env.now c.args.recursive (values_in c.args.scope.now) (marks_in c.args.scope.now) c.args.index c.in-Some-Recursive.place c.args.args.now c.in-Some.argument.now e c.in-Some.ensures.at _ c.args.m.now c.tick.new.self
          (follows_spent _ c.args.m.now c.tick.new.self z c.tick.ensures.account c.tick.ensures.nest);
    }

pub returns-in_err-argument-2 : goal.returns-in_err-argument-2
returns-in_err-argument-2 g c =
    let e = mark_at c.args.scope.now.marks c.args.index _ _ c.in-Some-Recursive.ensures.at c.in-Some-Recursive.field-0-is in
    let h : 0 < c.args.m.now.account.left = search rules in
    record {
      follows = call_with c.args.env.now c.args.recursive (values_in c.args.scope.now) (marks_in c.args.scope.now) c.args.index c.in-Some-Recursive.place c.args.args.now c.in-Some.argument.now e c.in-Some.ensures.at _ c.args.m.now c.normal_found.new.m (follows_tick _ _ c.args.m.now
          c.tick.new.self c.normal_found.new.m h c.tick.ensures.account c.tick.ensures.nest
          (follows_halted _ _ _ _ _ _ c.from_residual-in_err-argument-2.ensures.1 c.in_err-argument-2.ensures.follows (search leaving)));
    }

pub returns-in-Smaller : goal.returns-in-Smaller
returns-in-Smaller g c =
    let e = mark_at c.args.scope.now.marks c.args.index _ _ c.in-Some-Recursive.ensures.at c.in-Some-Recursive.field-0-is in
    let h : 0 < c.args.m.now.account.left = search rules in
    let f = rw c.in-Smaller.is at c.in_ok-argument-2.ensures.follows in
    record {
      follows = call_with c.args.env.now c.args.recursive (values_in c.args.scope.now) (marks_in c.args.scope.now) c.args.index c.in-Some-Recursive.place c.args.args.now c.in-Some.argument.now e c.in-Some.ensures.at _ c.args.m.now c.normal_found.new.m (follows_tick _ _ c.args.m.now
          c.tick.new.self c.normal_found.new.m h c.tick.ensures.account c.tick.ensures.nest
          (follows_bind _ _ _ _ _ _ _ f (follows_done tt c.normal_found.new.m)));
    }

pub returns-in_default-mark : goal.returns-in_default-mark
returns-in_default-mark g c =
    let e = mark_at c.args.scope.now.marks c.args.index _ _ c.in-Some-Recursive.ensures.at c.in-Some-Recursive.field-0-is in
    let h : 0 < c.args.m.now.account.left = search rules in
    record {
      follows = call_with c.args.env.now c.args.recursive (values_in c.args.scope.now) (marks_in c.args.scope.now) c.args.index c.in-Some-Recursive.place c.args.args.now c.in-Some.argument.now e c.in-Some.ensures.at _ c.args.m.now c.normal_found.new.m (follows_tick _ _ c.args.m.now
          c.tick.new.self c.normal_found.new.m h c.tick.ensures.account c.tick.ensures.nest
          (follows_bind _ _ _ _ _ _ _ c.in_ok-argument-2.ensures.follows (argument_refused c.in_ok-argument-2.argument c.in_ok-argument-2.mark c.normal_found.new.m c.in_default-mark.not-Smaller)));
    }
