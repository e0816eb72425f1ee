use Rattle.std.proofs.Common.{◌≡◌, length, arith}
use Rattle.std.proofs.lemmas.Result.{err_from_is_err_and}
use Rattle.guard_check.specs.Marks.{values_in, marks_in}
use Rattle.guard_check.proofs.BlockRuns.{none_passed, one_passed, nothing_found, found_stops, found_goes}
use Rattle.guard_check.proofs.guard.Guard.argument_found.Goals as goal

pub returns-then-defs-ne1 : goal.returns-then-defs-ne1
returns-then-defs-ne1 g c =
    let n : length c.args.defs.now ≡ 1 → ⊥ = grind arith in
    record {
      follows = nothing_found c.args.env.now c.args.recursive (values_in c.args.scope.now) (marks_in c.args.scope.now) _ c.args.m.now (none_passed c.args.defs.now c.args.args.now n);
    }

pub returns-in_err-mark : goal.returns-in_err-mark
returns-in_err-mark g c =
    let p = err_from_is_err_and c.from_residual.result c.from_residual.ensures.1 in
    let l : length c.args.defs.now ≡ 1 = grind arith in
    record {
      follows = rw (p.1, p.2) (found_stops c.args.env.now c.args.recursive (values_in c.args.scope.now) (marks_in c.args.scope.now) _ _ _ c.args.m.now c.normal_found.new.m (one_passed c.args.defs.now c.index-defs-0.result c.args.args.now c.in-Some.argument.now l c.in-Some.ensures.at) c.in_err-mark.ensures.follows);
    }

pub returns : goal.returns
returns g c =
    let l : length c.args.defs.now ≡ 1 = grind arith in
    record {
      follows = found_goes c.args.env.now c.args.recursive (values_in c.args.scope.now) (marks_in c.args.scope.now) _ _ _ c.args.m.now c.normal_found.new.m (one_passed c.args.defs.now c.index-defs-0.result c.args.args.now c.in-Some.argument.now l c.in-Some.ensures.at) c.in_ok-mark.ensures.follows;
    }
