use Rattle.first_order.proofs.ArgumentTokens.{gets, fault}
use Rattle.first_order.proofs.given.next_token.Goals as goal

pub returns-in-Ok : goal.returns-in-Ok
returns-in-Ok c = record { gets = gets c.in-Ok.token c.args.tokens.now c.next.new.self c.in-Ok.ensures.answer c.in-Ok.ensures.ok c.in-Ok.ensures.gave c.in-Ok.ensures.same }

pub returns-in-Err-Stray : goal.returns-in-Err-Stray
returns-in-Err-Stray c = record { gets = fault _ c.args.tokens.now c.next.new.self (rw c.in-Err-Stray.field-0-is at c.in-Err-Stray.ensures.answer) c.in-Err-Stray.ensures.same }

pub returns-in-Err-NameBytes : goal.returns-in-Err-NameBytes
returns-in-Err-NameBytes c = record { gets = fault _ c.args.tokens.now c.next.new.self (rw c.in-Err-NameBytes.field-0-is at c.in-Err-NameBytes.ensures.answer) c.in-Err-NameBytes.ensures.same }

pub returns-in-Err-Nesting : goal.returns-in-Err-Nesting
returns-in-Err-Nesting c = record { gets = fault _ c.args.tokens.now c.next.new.self (rw c.in-Err-Nesting.field-0-is at c.in-Err-Nesting.ensures.answer) c.in-Err-Nesting.ensures.same }
