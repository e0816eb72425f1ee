use Rattle.std.proofs.Common.{rules, reverse}
use Rattle.known_calls.proofs.KnownFinding.{words_lost}
use Rattle.known_calls.proofs.closures.words_of.Goals as goal

pub returns-in_default-clause-is : goal.returns-in_default-clause-is
returns-in_default-clause-is c =
    words_lost (reverse c.args.places.now) c.as_slice-a-items.result.now c.args.atoms.now c.loop-a.a-index c.in_ok-word.field-0 c.loop-a-test.true (search rules) c.in_ok-word.ensures.is c.in_default.not-Some c.as_slice-a-items.ensures.is
