use Rattle.std.proofs.Common.{◌≡◌, ◌+◌, drop, length}
use Rattle.wasm_core.specs.Instance.{put_funcs}
use Rattle.wasm_run.proofs.program.put.Given as goal

abbrev pub invariant-loop-i : goal.invariant-loop-i
invariant-loop-i l = (put_funcs l.table.items (l.offset + l.i) (drop l.i l.funcs) ≡ put_funcs l.fn.table.items l.offset l.funcs) × (length l.table.items ≡ length l.fn.table.items)
