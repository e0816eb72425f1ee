use Rattle.std.proofs.Common.{arith, reverse, ap, sym, ◌∙◌, refl, ◌-◌}
use Rattle.wasm_core.specs.ShortestBytes.{add_local}
use Rattle.wasm_encode.proofs.Locals.{runs_none, runs_below, runs_before}
use Rattle.wasm_encode.proofs.bodies.runs_of.Goals as goal

pub loop-left-init : goal.loop-left-init
loop-left-init c = (ap reverse c.new-runs.ensures.items ∙ sym (runs_none c.args.ts.now _ refl), omega arith)

pub add_local-requires : goal.add_local-requires
add_local-requires c = record { fits = runs_below c.args.ts.now c.loop-left.left _ c.loop-left.invariant.0 c.loop-left-test.true c.loop-left.invariant.1 c.requires.fits }

pub loop-left-preserved : goal.loop-left-preserved
loop-left-preserved c =
    (c.in_ok-add_local.ensures.adds ∙ ap (add_local _) c.loop-left.invariant.0 ∙ sym (runs_before c.args.ts.now (c.loop-left.left - 1) c.loop-left.left _ (omega (arith, c.loop-left-test.true)) (omega (arith, c.loop-left-test.true, c.loop-left.invariant.1))), omega (arith, c.loop-left.invariant.1))
