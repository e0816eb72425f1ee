use Rattle.std.proofs.Common.{◌++◌, ◌-◌, ◌+◌, List, ap, sym, ◌∙◌, arith}
use Rattle.wasm_core.specs.declared.instrs.Instr.{Instr}
use Rattle.wasm_emit.specs.Pushed.{ends}
use Rattle.wasm_emit.proofs.Pushing.{ends_step}
use Rattle.wasm_emit.proofs.instructions.push_ends.Goals as goal

pub loop-preserved : goal.loop-preserved
loop-preserved c = (
  (λ rest. c.in_ok-push.ensures.pushed.is (ends (c.args.n - (c.loop.counter + 1)) rest)
      ∙ ap (λ (z : List Instr). c.loop.out.items ++ z) (sym (ends_step c.args.n c.loop.counter rest c.loop-test.true))
      ∙ c.loop.invariant.0 rest),
  omega (arith, c.loop-test.true),
)
