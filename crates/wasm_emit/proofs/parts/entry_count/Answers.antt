use Rattle.std.proofs.Common.{length, ap, arith}
use Rattle.closure_lift.specs.LiftedProgram.{place_in}
use Rattle.closure_lift.proofs.Counted.{functions_length, renumbered_length}
use Rattle.wasm_emit.proofs.parts.entry_count.Goals as goal

pub overflow_cast-result : goal.overflow_cast-result
overflow_cast-result c = omega (arith, renumbered_length (place_in c.args.p.now.constants) c.args.p.now.functions, functions_length c.as_slice.result.now, ap length c.as_slice.ensures.is, c.requires.few)

pub overflow_add-result : goal.overflow_add-result
overflow_add-result c = omega (arith, renumbered_length (place_in c.args.p.now.constants) c.args.p.now.functions, functions_length c.as_slice.result.now, ap length c.as_slice.ensures.is, c.requires.few)

pub returns : goal.returns
returns c = record { is = omega (arith, renumbered_length (place_in c.args.p.now.constants) c.args.p.now.functions, functions_length c.as_slice.result.now, ap length c.as_slice.ensures.is) }
