use Rattle.std.proofs.Common.{arith, reverse, sym, ◌∙◌}
use Rattle.known_calls.proofs.KnownFinding.{too_many, few_words}
use Rattle.known_calls.proofs.closures.known_closure.Goals as goal

pub returns-then-len-gt-MOST_WORDS-clause-is : goal.returns-then-len-gt-MOST_WORDS-clause-is
returns-then-len-gt-MOST_WORDS-clause-is c = sym (too_many (reverse c.args.places.now) c.args.g c.args.atoms.now (omega (arith, c.len.ensures.is, c.if-len-gt-MOST_WORDS.true)))

pub returns-in-Some-clause-is : goal.returns-in-Some-clause-is
returns-in-Some-clause-is c = sym (few_words (reverse c.args.places.now) c.args.g c.args.atoms.now c.in-Some.words (omega (arith, c.len.ensures.is, c.if-len-gt-MOST_WORDS.false)) (sym c.in_ok-words.ensures.is ∙ c.in-Some.is))
