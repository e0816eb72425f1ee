use Rattle.dump_reader.proofs.Closing.{front_verdict}
use Rattle.dump_reader.proofs.reading.read_ahead.Goals as goal

pub returns-in-Ok-clause-exact : goal.returns-in-Ok-clause-exact
returns-in-Ok-clause-exact c = front_verdict c.args.bytes.now c.in_ok-end.end c.in_ok-end.ensures.behind c.in-Ok.env c.in-Ok.ensures.exact
