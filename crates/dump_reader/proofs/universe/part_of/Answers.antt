use Rattle.dump_reader.proofs.Universes.{expression-made}
use Rattle.dump_reader.proofs.universe.part_of.Goals as goal

pub returns-clause-made : goal.returns-clause-made
returns-clause-made c = expression-made c.args.part.now c.in_ok-level.level c.in_ok-level.ensures.made
