use Rattle.std.proofs.Common.{length, refl, ◌∙◌}
use Rattle.known_calls.proofs.KnownEmitting.{funcs_made}
use Rattle.known_calls.proofs.emission.funcs_of.Goals as goal

pub returns-clause-is : goal.returns-clause-is
returns-clause-is c =
    c.of.ensures.items
    ∙ funcs_made c.args.p.now c.as_slice.result.now (length c.as_slice.result.now) c.len.result c.in_ok-items.items.items c.push_times.new.items.items c.push_times-2.new.items.items c.push.new.self.items c.push_worker_types.new.items.items c.as_slice.ensures.is refl c.len.ensures.is
    c.in_ok-items.ensures.items c.in_ok-push_times.ensures.pushed c.in_ok-push_times-2.ensures.pushed c.in_ok-push.ensures.items c.in_ok-push_worker_types.ensures.pushed
