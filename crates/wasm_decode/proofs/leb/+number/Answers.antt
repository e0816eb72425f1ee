use Rattle.std.proofs.Common.{arith}
use Rattle.wasm_core.proofs.Powers.{few_high}
use Rattle.wasm_decode.proofs.leb.+number.Goals as goal

pub overflow_mul-result : goal.overflow_mul-result
overflow_mul-result t c = let p = few_high c.args.bits c.in-Some.high c.requires.width.0 c.in-Some.ensures.holds.0 in omega (arith, p)

pub overflow_add-result : goal.overflow_add-result
overflow_add-result t c = let p = few_high c.args.bits c.in-Some.high c.requires.width.0 c.in-Some.ensures.holds.0 in let b = c.in_ok-first.first.now in omega (arith, p, c.ranges.bits.fits)
