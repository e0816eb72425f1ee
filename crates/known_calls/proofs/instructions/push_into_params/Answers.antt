use Rattle.std.proofs.Common.{◌++◌, ◌-◌, ◌+◌, List, ap, sym, ◌∙◌, arith}
use Rattle.wasm_core.specs.declared.instrs.Instr.{Instr}
use Rattle.known_calls.specs.KnownCode.{into_params}
use Rattle.known_calls.proofs.KnownPushing.{params_step}
use Rattle.known_calls.proofs.instructions.push_into_params.Goals as goal

pub loop-k-preserved : goal.loop-k-preserved
loop-k-preserved c = (
  (λ rest. c.in_ok-push.ensures.pushed.is (into_params (c.args.n - (c.loop-k.k + 1)) rest)
      ∙ ap (λ (z : List Instr). c.loop-k.out.items ++ z) (sym (params_step c.args.n c.loop-k.k rest c.loop-k-test.true))
      ∙ c.loop-k.invariant.0 rest),
  omega (arith, c.loop-k-test.true),
)
