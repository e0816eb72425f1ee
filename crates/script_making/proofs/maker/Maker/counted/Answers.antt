use Rattle.script_making.proofs.Making.{counted_passed}
use Rattle.script_making.proofs.maker.Maker.counted.Goals as goal

pub returns-in_err-whnf-clause-follows : goal.returns-in_err-whnf-clause-follows
returns-in_err-whnf-clause-follows g c = counted_passed _ c.from_residual.result _ _ _ c.from_residual.ensures.1 c.in_err-whnf.ensures.follows
