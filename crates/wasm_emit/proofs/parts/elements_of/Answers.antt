use Rattle.std.proofs.Common.{arith, refl, ◌+◌}
use Rattle.wasm_emit.proofs.Emitting.{entries_more}
use Rattle.wasm_emit.proofs.parts.elements_of.Goals as goal

pub loop-k-preserved : goal.loop-k-preserved
loop-k-preserved c =
    (entries_more c.loop-k.funcs.items c.push.new.self.items _ (c.loop-k.k + 1) c.loop-k.k c.args.n c.in_ok-push.ensures.items refl c.loop-k-test.true c.loop-k.invariant.0, omega (arith, c.loop-k-test.true))
