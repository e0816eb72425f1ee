use Rattle.std.proofs.Common.{length, ap, arith}
use Rattle.closure_lift.specs.LiftedProgram.{place_in}
use Rattle.closure_lift.proofs.Counted.{functions_length, renumbered_length}
use Rattle.wasm_emit.proofs.functions.function_index.Goals as goal

pub returns-in-Ok-clause-is : goal.returns-in-Ok-clause-is
returns-in-Ok-clause-is c =
    omega (arith, renumbered_length (place_in c.args.p.now.constants) c.args.p.now.functions, functions_length c.as_slice.result.now, ap length c.as_slice.ensures.is, c.in-Some.ensures, c.in-Some-checked_add.ensures, c.in-Ok.ensures)
