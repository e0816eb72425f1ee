use Rattle.std.proofs.Common.{refl}
use Rattle.pc_rules.specs.DirectedPositivity.{block_positive}
use Rattle.inductive_check.specs.Given.{block_of}
use Rattle.type_cert.specs.declared.trail.Trail.{Trail}
use Rattle.type_cert.proofs.Retracing.{retraces_on, retraces_err, retraces_passed, retraces_rules}
use Rattle.block_cert.proofs.Whole.{is_positive, not_positive}
use Rattle.block_cert.proofs.positivity.positivity.Goals as goal

pub returns-in_err-positive : goal.returns-in_err-positive
returns-in_err-positive c =
    let t1 : Trail = record { meter = c.positive.new.m; at = c.args.trail.now.at } in
    let f = block_positive c.args.env.now (block_of c.args.raw.now) in
    record { retraces = retraces_passed c.from_residual.ensures.1 (retraces_err _ (retraces_rules f _ c.args.trail.now t1 c.in_err-positive.ensures.follows refl)) }

pub returns-then-branch : goal.returns-then-branch
returns-then-branch c =
    let t1 : Trail = record { meter = c.positive.new.m; at = c.args.trail.now.at } in
    let f = block_positive c.args.env.now (block_of c.args.raw.now) in
    record {
      retraces = retraces_on _ (retraces_rules f _ c.args.trail.now t1 c.in_ok-positive.ensures.follows refl) (is_positive c.in_ok-positive.field-0 t1 c.if-branch.true);
    }

pub returns : goal.returns
returns c =
    let t1 : Trail = record { meter = c.positive.new.m; at = c.args.trail.now.at } in
    let f = block_positive c.args.env.now (block_of c.args.raw.now) in
    record {
      retraces = retraces_on _ (retraces_rules f _ c.args.trail.now t1 c.in_ok-positive.ensures.follows refl) (not_positive c.in_ok-positive.field-0 t1 c.if-branch.false);
    }
