use Rattle.closure_lift.proofs.Making.{frame_on, code_on}
use Rattle.closure_lift.proofs.atoms.make_closures.Goals as goal

pub loop-past-preserved : goal.loop-past-preserved
loop-past-preserved c =
    let s = c.args.variables.now.0 in
    let xs = c.as_slice-items.result.now in
    let p = c.loop-past.past in
    let e = c.in_ok-make_closure.ensures in
    record {
      frame = frame_on s c.loop-past.frame xs p _ c.loop-past-test.true e.frame c.loop-past.invariant.frame;
      code = code_on s c.args.variables.now.1 c.loop-past.frame xs p _ _ c.loop-past-test.true e.frame e.code c.loop-past.invariant.code;
    }
