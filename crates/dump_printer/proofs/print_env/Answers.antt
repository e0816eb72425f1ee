use Rattle.dump_printer.proofs.Spelling.{text-spells}
use Rattle.dump_printer.proofs.ReadBack.{text-read-back}
use Rattle.dump_printer.proofs.Nestings.{nests-no-deeper}
use Rattle.dump_printer.proofs.print_env.Goals as goal

pub returns-clause-spells : goal.returns-clause-spells
returns-clause-spells g c = text-spells c.args.env.now c.requires.spelled

pub returns-clause-read_back : goal.returns-clause-read_back
returns-clause-read_back g c = text-read-back c.args.env.now c.requires.spelled

pub returns-clause-nests : goal.returns-clause-nests
returns-clause-nests g c = nests-no-deeper c.args.env.now
