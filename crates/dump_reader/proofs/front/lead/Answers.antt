use Rattle.std.proofs.Common.{sym, ◌∙◌, arith}
use Rattle.dump_reader.proofs.Counting.{blank_passes}
use Rattle.dump_reader.proofs.front.lead.Goals as goal

pub returns-then-is_blank : goal.returns-then-is_blank
returns-then-is_blank c =
    let same = blank_passes c.args.bytes.now c.args.place.nesting c.args.place.at c.requires.within (sym c.is_blank.ensures.is ∙ c.if-is_blank.true) in
    record { leads = (omega arith, record { behind = omega arith; within = omega arith; nested = c.requires.nested; same = same }) }
