use Rattle.std.proofs.Common.{arith}
use Rattle.cert_text.proofs.ShortItems.{digit_number}
use Rattle.cert_text.proofs.reading.digit.Goals as goal

pub returns-in-48-to-57-clause-is : goal.returns-in-48-to-57-clause-is
returns-in-48-to-57-clause-is c = digit_number c.args.b (omega arith) (omega arith)
