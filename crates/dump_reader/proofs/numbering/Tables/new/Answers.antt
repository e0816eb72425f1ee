use Rattle.std.proofs.Common.{refl}
use Rattle.dump_grammar.specs.Keywords.{spelling}
use Rattle.dump_grammar.specs.declared.keyword.Keyword.TheVariants as words
use Rattle.dump_reader.proofs.Growth.{first-use}
use Rattle.dump_reader.proofs.numbering.Tables.new.Goals as goal

pub returns-clause-levels : goal.returns-clause-levels
unfolding spelling
returns-clause-levels c = first-use c.new-levels.result c.number.new.self _ (spelling words.Set) c.new-levels.ensures.empty c.in_ok-number.ensures.added refl
