use Rattle.std.proofs.Common.{arith}
use Rattle.cert_text.proofs.ShortItems.{side_taken}
use Rattle.cert_text.proofs.reading.short_side.Goals as goal

pub returns-in-Some-byte_side-clause-takes : goal.returns-in-Some-byte_side-clause-takes
returns-in-Some-byte_side-clause-takes c =
    side_taken c.args.bytes.now c.args.at (omega arith) c.if-bytes-at-ne32.false c.if-bytes-at-ne32-2.false c.if-bytes-at-ne32-3.false
    c.in-Some-byte_side.ensures.atom c.in-Some.ensures.atom c.in-Some.count c.in-Some.ensures.is c.in-Some-byte_side.item c.in-Some-byte_side.ensures.is
