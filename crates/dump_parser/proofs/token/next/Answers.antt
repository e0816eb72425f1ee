use Rattle.dump_parser.proofs.Steps.{gets, ahead, fault, long-ahead}
use Rattle.dump_parser.proofs.Atoms.{ascii_atom}
use Rattle.dump_parser.proofs.token.next.Goals as goal

pub returns-in-Ok : goal.returns-in-Ok
returns-in-Ok c = record {
  gets = gets c.in-Ok.token c.args.tokens.now c.next.new.self c.in-Ok.ensures.answer c.in-Ok.ensures.ok c.in-Ok.ensures.gave c.in-Ok.ensures.same;
  ahead = ahead c.in-Ok.token c.args.tokens.now c.next.new.self c.in-Ok.ensures.gave;
  ascii = ascii_atom c.in-Ok.token c.args.tokens.now c.next.new.self c.in-Ok.ensures.gave;
}

pub returns-in-Err-Stray-clause-gets : goal.returns-in-Err-Stray-clause-gets
returns-in-Err-Stray-clause-gets c = fault _ c.args.tokens.now c.next.new.self (rw c.in-Err-Stray.field-0-is at c.in-Err-Stray.ensures.answer) c.in-Err-Stray.ensures.same

pub returns-in-Err-NameBytes-clause-gets : goal.returns-in-Err-NameBytes-clause-gets
returns-in-Err-NameBytes-clause-gets c = fault _ c.args.tokens.now c.next.new.self (rw c.in-Err-NameBytes.field-0-is at c.in-Err-NameBytes.ensures.answer) c.in-Err-NameBytes.ensures.same

pub returns-in-Err-NameBytes-clause-ahead : goal.returns-in-Err-NameBytes-clause-ahead
returns-in-Err-NameBytes-clause-ahead c = long-ahead _ _ _ (rw c.in-Err-NameBytes.field-0-is at c.in-Err-NameBytes.ensures.answer)

pub returns-in-Err-Nesting-clause-gets : goal.returns-in-Err-Nesting-clause-gets
returns-in-Err-Nesting-clause-gets c = fault _ c.args.tokens.now c.next.new.self (rw c.in-Err-Nesting.field-0-is at c.in-Err-Nesting.ensures.answer) c.in-Err-Nesting.ensures.same
