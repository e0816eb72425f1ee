use Rattle.std.proofs.Common.{rules}
use Rattle.dump_reader.proofs.Tables.{found-place, found-same, next-place, inserted}
use Rattle.dump_reader.proofs.names.Names.number.Goals as goal

pub returns-in-Some-clause-added : goal.returns-in-Some-clause-added
returns-in-Some-clause-added c = found-same c.args.text.now c.self.inside.texts.keys c.args.self.now (search rules) c.in-Some.ensures.found

pub returns-in-Some-clause-number : goal.returns-in-Some-clause-number
returns-in-Some-clause-number c = found-place c.args.text.now c.self.inside.texts.keys c.args.self.now (search rules) c.in-Some.place (search rules)

pub returns-clause-added : goal.returns-clause-added
returns-clause-added c = inserted c.args.text.now c.self.inside.texts.keys c.args.self.now (search rules) c.in_ok-owned.owned c.insert.new.self.keys (search rules) (search rules)

pub returns-clause-number : goal.returns-clause-number
returns-clause-number c = next-place c.args.text.now c.self.inside.texts.keys c.args.self.now (search rules) (search rules) c.len-next.result (search rules)
