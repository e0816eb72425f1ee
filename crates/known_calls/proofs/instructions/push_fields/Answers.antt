use Rattle.std.proofs.Common.{rules, reverse}
use Rattle.known_calls.specs.KnownCode.{fill}
use Rattle.known_calls.proofs.KnownPushing.{field_pushed}
use Rattle.known_calls.proofs.instructions.push_fields.Goals as goal

pub loop-k-preserved : goal.loop-k-preserved
loop-k-preserved c =
    field_pushed (reverse c.args.places.now) c.args.d c.as_slice-fields.result.now c.args.atoms.now c.loop-k.k c.in_ok-offset.offset c.loop-k.out.items c.push.new.out.items c.push_atom.new.out.items c.push_store.new.out.items c.args.out.now.items
    (fill (reverse c.args.places.now) c.args.d c.args.atoms.now) c.as_slice-fields.ensures.is c.loop-k-test.true c.in_ok-offset.ensures.is c.in_ok-push.ensures.pushed c.in_ok-push_atom.ensures.pushed c.in_ok-push_store.ensures.pushed (search rules) c.loop-k.invariant
