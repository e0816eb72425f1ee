use Rattle.std.proofs.Common.{ap}
use Rattle.closure_lift.specs.FreeVariables.{free_atoms}
use Rattle.closure_lift.proofs.Backwards.{turned_step}
use Rattle.closure_lift.proofs.Noting.{part_more}
use Rattle.closure_lift.proofs.free.name_atoms.Goals as goal

pub loop-past-preserved : goal.loop-past-preserved
loop-past-preserved c = part_more c.loop-past.names.items _ _ c.in_ok-name_atom.ensures.names (ap (free_atoms c.args.n) (turned_step c.as_slice-items.result.now c.loop-past.past _ c.loop-past-test.true)) c.loop-past.invariant
