use Rattle.std.proofs.Common.{arith}
use Rattle.wasm_core.proofs.Locals.{runs_few}
use Rattle.wasm_encode.proofs.Locals.{runs_length}
use Rattle.wasm_encode.proofs.bodies.put_locals.Goals as goal

pub overflow_cast-len : goal.overflow_cast-len
overflow_cast-len c = let a = runs_length c.in_ok-runs.runs.items c.args.ts.now c.in_ok-runs.ensures.runs in let b = runs_few c.args.ts.now in omega (arith, a, b, c.requires.fits)
