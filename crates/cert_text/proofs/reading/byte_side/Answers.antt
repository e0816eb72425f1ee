use Rattle.std.proofs.Common.{arith}
use Rattle.cert_text.proofs.ShortItems.{left_byte, right_byte}
use Rattle.cert_text.proofs.reading.byte_side.Goals as goal

pub returns-in-108-clause-is : goal.returns-in-108-clause-is
returns-in-108-clause-is c = rw c.in-108.is (left_byte c.args.count (omega arith))

pub returns-in-114-clause-is : goal.returns-in-114-clause-is
returns-in-114-clause-is c = rw c.in-114.is (right_byte c.args.count (omega arith))
