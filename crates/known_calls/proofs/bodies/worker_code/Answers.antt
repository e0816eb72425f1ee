use Rattle.known_calls.proofs.KnownBuilt.{worker_made}
use Rattle.known_calls.proofs.bodies.worker_code.Goals as goal

pub returns-clause-is : goal.returns-clause-is
returns-clause-is c =
    worker_made c.args.p.now c.args.g c.args.f.now c.in-Some.params c.new-places.result.items c.push_params.new.places.items c.new-code.result.items c.push.new.out.items c.push_whole.new.out.items c.push-2.new.out.items c.push-3.new.out.items c.in-Some.ensures.1 c.new-places.ensures.items
    c.in_ok-push_params.ensures.is c.new-code.ensures.items c.in_ok-push.ensures.pushed c.in_ok-push_whole.ensures.pushed c.in_ok-push-2.ensures.pushed c.in_ok-push-3.ensures.pushed
