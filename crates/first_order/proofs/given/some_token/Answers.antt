use Rattle.first_order.proofs.ArgumentTokens.{some, none}
use Rattle.first_order.proofs.given.some_token.Goals as goal

pub returns-in-Some : goal.returns-in-Some
returns-in-Some c = record { gets = some c.in-Some.token c.args.tokens.now c.next_token.new.tokens (rw c.in-Some.is at c.in_ok-token.ensures.gets) }

pub returns-in-None : goal.returns-in-None
returns-in-None c = record { gets = none c.args.tokens.now c.next_token.new.tokens c.len.result c.len.ensures.bytes (rw c.in-None.is at c.in_ok-token.ensures.gets) }
