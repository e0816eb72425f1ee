use Rattle.wasm_decode.proofs.items.text.Goals as goal
use Rattle.wasm_decode.proofs.Taking.{name_wrong}
use Rattle.std.proofs.Common.{arith}

pub returns-in-Err : goal.returns-in-Err
returns-in-Err c = record { reads = record { same = tt; shorter = tt; goes = λ k ws. name_wrong _ c.in-Some.n c.in-Some.used c.in-Some.ensures.at _ _ _ c.split_at.ensures.back (omega (arith, c.if-size-rest.false)) c.split_at-in-Some.ensures.front c.in-Err.ensures.cases.0 k ws } }
