use Rattle.std.proofs.Common.{refl}
use Rattle.dump_reader.proofs.Growth.{used-level}
use Rattle.dump_reader.proofs.numbering.Tables.level.Goals as goal

pub returns-clause-made : goal.returns-clause-made
returns-clause-made c = used-level c.args.text.now c.args.text.now c.args.self.now c.number.new.self c.in_ok-number.number refl c.in_ok-number.ensures.added c.in_ok-number.ensures.number
