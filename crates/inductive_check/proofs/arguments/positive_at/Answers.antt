use Rattle.std.proofs.lemmas.Result.{err_from_is_err_and}
use Rattle.inductive_check.proofs.Looping.{positive_stops, positive_holds, positive_fails}
use Rattle.inductive_check.proofs.arguments.positive_at.Goals as goal

pub returns-in_err-is_positive : goal.returns-in_err-is_positive
returns-in_err-is_positive c =
    let p = err_from_is_err_and c.from_residual.result c.from_residual.ensures.1 in
    record { follows = rw (p.1, p.2) (positive_stops c.args.env.now c.args.block c.args.at.family c.args.at.ctor c.args.ty.now _ c.args.m.now c.is_positive.new.m c.in_err-is_positive.ensures.follows) }

pub returns-then-branch : goal.returns-then-branch
returns-then-branch c = record {
  follows = positive_holds c.args.env.now c.args.block c.args.at.family c.args.at.ctor c.args.ty.now c.in_ok-is_positive.field-0 c.args.m.now c.is_positive.new.m c.if-branch.true c.in_ok-is_positive.ensures.follows;
}

pub returns : goal.returns
returns c = record {
  follows = positive_fails c.args.env.now c.args.block c.args.at.family c.args.at.ctor c.args.ty.now c.in_ok-is_positive.field-0 c.args.m.now c.is_positive.new.m c.if-branch.false c.in_ok-is_positive.ensures.follows;
}
