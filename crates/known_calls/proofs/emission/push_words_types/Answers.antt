use Rattle.std.proofs.Common.{arith}
use Rattle.known_calls.proofs.KnownEmitting.{type_of_words, words_types_more}
use Rattle.known_calls.proofs.emission.push_words_types.Goals as goal

pub loop-k-preserved : goal.loop-k-preserved
loop-k-preserved c = (
  words_types_more c.loop-k.types.items c.push.new.self.items _ c.in_ok-of.of c.loop-k.k c.args.n c.in_ok-push.ensures.items (type_of_words c.loop-k.k c.in_ok-of.of c.in_ok-of.ensures.is) c.loop-k-test.true c.loop-k.invariant.0,
  omega (arith, c.loop-k-test.true),
)
