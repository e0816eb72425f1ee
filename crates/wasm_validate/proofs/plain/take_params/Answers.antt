use Rattle.std.proofs.Common.{◌<◌, ◌≤◌, length, arith}
use Rattle.wasm_core.specs.declared.types.ValType.TheVariants.{I32}
use Rattle.wasm_validate.proofs.Taking.{off_where_empty}
use Rattle.wasm_validate.proofs.plain.take_params.Goals as goal

pub returns-then-is_empty-clause-taken : goal.returns-then-is_empty-clause-taken
returns-then-is_empty-clause-taken c =
    let some : 0 < c.loop-at.at = omega arith in
    let le : c.loop-at.at ≤ length c.args.params.now = omega arith in
    off_where_empty c.args.params.now c.loop-at.at c.loop-at.checker.now I32 some le (c.is_empty.ensures.is.0 c.if-is_empty.true) c.is_loose.result c.is_loose.ensures.is _ c.loop-at.invariant.left
