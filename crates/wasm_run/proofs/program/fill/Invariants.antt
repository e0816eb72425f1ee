use Rattle.std.proofs.Common.{◌≡◌, drop, length, replicate, None, true}
use Rattle.wasm_core.specs.Instance.{put_segments, all_fit}
use Rattle.wasm_run.proofs.program.fill.Given as goal

abbrev pub invariant-loop-i : goal.invariant-loop-i
invariant-loop-i l =
    (put_segments l.table.items (drop l.i l.segments) ≡ put_segments (replicate l.size None) l.segments)
    × (length l.table.items ≡ l.size)
    × (all_fit l.size (drop l.i l.segments) ≡ true)
