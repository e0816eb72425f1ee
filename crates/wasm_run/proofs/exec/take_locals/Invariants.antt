use Rattle.std.proofs.Common.{◌≡◌, ◌++◌, take, drop, reverse, map}
use Rattle.wasm_core.specs.Instance.{zero_of}
use Rattle.wasm_run.proofs.exec.take_locals.Given as goal

abbrev pub invariant-loop-k : goal.invariant-loop-k
invariant-loop-k l = (l.locals.items ≡ take l._k l.fn.frame.vals) × (l.frame ≡ record l.fn.frame { vals = drop l._k l.fn.frame.vals })

abbrev pub invariant-loop-j : goal.invariant-loop-j
invariant-loop-j l = l.locals.items ≡ reverse (take l.params l.fn.frame.vals) ++ map zero_of (take l.j l.others)
