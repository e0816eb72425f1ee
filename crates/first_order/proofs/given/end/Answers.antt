use Rattle.std.proofs.Common.{[]}
use Rattle.first_order.proofs.given.end.Goals as goal

pub returns-in-Some : goal.returns-in-Some
returns-in-Some c = let gets = rw c.in-Some.is at c.in_ok-token.ensures.gets in record { ends = λ names. gets.goes names [] }

pub returns-in-None : goal.returns-in-None
returns-in-None c = let gets = rw c.in-None.is at c.in_ok-token.ensures.gets in record { ends = λ names. gets.goes names [] }
