use Rattle.std.proofs.Common.{◌≡◌, ◌≤◌, length, reverse, drop}
use Rattle.wasm_core.specs.ShortestBytes as shortest
use Rattle.wasm_encode.proofs.bodies.runs_of.Given as goal

abbrev pub decreases-loop-left : goal.decreases-loop-left
decreases-loop-left l = l.left

abbrev pub invariant-loop-left : goal.invariant-loop-left
invariant-loop-left l = (reverse l.runs.items ≡ shortest.runs (drop l.left l.fn.ts)) × (l.left ≤ length l.fn.ts)
