use Rattle.std.proofs.Common.{sym, ◌∙◌}
use Rattle.dump_reader.proofs.Counting.{end_ends}
use Rattle.dump_reader.proofs.front.front_length.Goals as goal

pub returns-clause-is : goal.returns-clause-is
returns-clause-is c = sym (c.loop-place.invariant.ends ∙ end_ends c.args.bytes.now c.loop-place.place.nesting c.loop-place.place.at c.loop-place-test.false)
