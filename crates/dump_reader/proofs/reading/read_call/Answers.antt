use Rattle.dump_reader.proofs.Verdicts.{front_spelled, front_complete}
use Rattle.dump_reader.proofs.reading.read_call.Goals as goal

pub returns-in-Some-clause-spells : goal.returns-in-Some-clause-spells
returns-in-Some-clause-spells c = front_spelled c.args.bytes.now c.in-Some.read c.in-Some.ensures.exact

pub returns-in-Some-clause-complete : goal.returns-in-Some-clause-complete
returns-in-Some-clause-complete c = front_complete c.args.bytes.now c.in-Some.read c.in-Some.ensures.exact
