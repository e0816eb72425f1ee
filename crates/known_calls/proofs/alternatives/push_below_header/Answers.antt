use Rattle.std.proofs.Common.{rules, ◌≡◌, ◌*◌}
use Rattle.std.proofs.lemmas.Result.{on_ok_weaker}
use Rattle.known_calls.proofs.KnownArms.{below_pushed}
use Rattle.known_calls.proofs.alternatives.push_below_header.Goals as goal

pub returns-clause-pushed : goal.returns-clause-pushed
returns-clause-pushed c =
    let e : c.in-Some.word ≡ c.args.c * 65536 = search rules in
    on_ok_weaker c.push_greater.result
    (λ y. below_pushed c.args.d c.args.c c.in-Some.word c.args.out.now.items c.push.new.out.items c.push-2.new.out.items c.push_load.new.out.items c.push-3.new.out.items c.push-4.new.out.items c.push_greater.new.out.items e
    c.in_ok-push.ensures.pushed c.in_ok-push-2.ensures.pushed c.in_ok-push_load.ensures.pushed c.in_ok-push-3.ensures.pushed c.in_ok-push-4.ensures.pushed y)
    c.push_greater.ensures.pushed
