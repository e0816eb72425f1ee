use Rattle.std.proofs.Common.{arith, sym, subst, ◌-◌}
use Rattle.cert_rules.proofs.Packing.{number_item}
use Rattle.cert_text.specs.Answering.{IsOfByte}
use Rattle.cert_text.proofs.ShortItems.{digit_number, number_byte, same_byte, conv_byte, parts_byte}
use Rattle.cert_text.proofs.reading.byte_code.Goals as goal

pub returns-in-48-to-57-clause-is : goal.returns-in-48-to-57-clause-is
returns-in-48-to-57-clause-is c =
    let n = c.args.b - 48 in
    subst (λ x. IsOfByte c.args.b x) (sym (number_item n (omega arith))) (number_byte c.args.b n (omega arith) (digit_number c.args.b (omega arith) (omega arith)))

pub returns-in-115-clause-is : goal.returns-in-115-clause-is
returns-in-115-clause-is c = rw c.in-115.is same_byte

pub returns-in-99-clause-is : goal.returns-in-99-clause-is
returns-in-99-clause-is c = rw c.in-99.is conv_byte

pub returns-in-107-clause-is : goal.returns-in-107-clause-is
returns-in-107-clause-is c = rw c.in-107.is parts_byte
