use Rattle.std.proofs.Common.{arith, reverse}
use Rattle.closure_lift.specs.Lifted.{tail_of}
use Rattle.closure_lift.specs.LiftedView.{seen}
use Rattle.known_calls.proofs.KnownFinding.{alone_not}
use Rattle.known_calls.proofs.closures.closure_alone.Goals as goal

pub returns-then-as_slice-gt0-clause-is : goal.returns-then-as_slice-gt0-clause-is
returns-then-as_slice-gt0-clause-is c = alone_not (reverse c.args.places.now) c.as_slice.result.now c.b.inside.bindings (tail_of (seen c.b.inside.tail)) c.args.b.now (omega (arith, c.if-as_slice-gt0.true)) c.as_slice.ensures.is c.b.view_is
