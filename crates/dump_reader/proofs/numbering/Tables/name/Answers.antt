use Rattle.std.proofs.Common.{refl, sym}
use Rattle.dump_reader.proofs.Growth.{used-name}
use Rattle.dump_reader.proofs.numbering.Tables.name.Goals as goal

pub returns-then-is_text_of-clause-made : goal.returns-then-is_text_of-clause-made
returns-then-is_text_of-clause-made c = used-name c.args.text.now c.as_bytes-2.result.now c.last-last.result c.as_bytes-2.ensures.value (sym (c.is_text_of.ensures.there c.if-is_text_of.true)) refl (sym (c.is_text_of.ensures.place c.if-is_text_of.true))

pub returns-clause-made : goal.returns-clause-made
returns-clause-made c = used-name c.args.text.now c.args.text.now c.in_ok-number.number refl c.in_ok-number.ensures.added refl c.in_ok-number.ensures.number
