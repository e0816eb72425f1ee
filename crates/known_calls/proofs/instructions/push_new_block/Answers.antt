use Rattle.std.proofs.Common.{rules, reverse}
use Rattle.std.proofs.lemmas.Result.{on_ok_weaker}
use Rattle.known_calls.proofs.KnownPushing.{block_pushed}
use Rattle.known_calls.proofs.instructions.push_new_block.Goals as goal

pub returns-clause-pushed : goal.returns-clause-pushed
returns-clause-pushed c =
    on_ok_weaker c.push_fields.result
    (λ x. block_pushed (reverse c.args.places.now) c.args.d c.args.header c.in_ok-bytes.bytes c.in-Some.words c.args.atoms.now c.args.out.now.items c.push_address.new.out.items c.push.new.out.items c.push-2.new.out.items
    c.push_store.new.out.items c.push_fields.new.out.items c.in_ok-bytes.ensures.is (search rules) c.in_ok-push_address.ensures.pushed c.in_ok-push.ensures.pushed c.in_ok-push-2.ensures.pushed
    c.in_ok-push_store.ensures.pushed x)
    c.push_fields.ensures.pushed
