use Rattle.std.proofs.Common.{◌≡◌, take, reverse}
use Rattle.wasm_core.specs.Pass.{off}
use Rattle.wasm_validate.proofs.plain.take_params.Given as goal

abbrev pub invariant-loop-at : goal.invariant-loop-at
invariant-loop-at l = record {
  left : off (reverse (take l.at l.params)) l.checker.now ≡ off (reverse l.params) l.fn.checker.now;
  ctls : l.checker.ctls ≡ l.fn.checker.ctls;
}
