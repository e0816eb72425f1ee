use Rattle.std.proofs.lemmas.Result.{err_from_is_err_and}
use Rattle.guard_check.specs.Marks.{values_in, marks_in}
use Rattle.guard_check.proofs.BlockRuns.{body_stops, body_goes}
use Rattle.guard_check.proofs.guard.Guard.body.Goals as goal

pub returns-in_err-recursive : goal.returns-in_err-recursive
returns-in_err-recursive g c =
    let p = err_from_is_err_and c.from_residual.result c.from_residual.ensures.1 in
    record {
      follows = rw (p.1, p.2) (body_stops c.args.env.now (values_in c.args.scope.now) (marks_in c.args.scope.now) c.args.rarg c.args.t.now _ c.args.m.now c.recursive_block.new.m
          c.in_err-recursive.ensures.follows);
    }

pub returns : goal.returns
returns g c = record {
  follows = body_goes c.args.env.now (values_in c.args.scope.now) (marks_in c.args.scope.now) c.args.rarg c.args.t.now c.in_ok-recursive.recursive _ c.args.m.now c.recursive_block.new.m c.under.new.m
      c.in_ok-recursive.ensures.follows c.under.ensures.follows;
}
