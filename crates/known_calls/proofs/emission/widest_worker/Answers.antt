use Rattle.std.proofs.Common.{◌+◌, List, ap, drop, refl, sym, ◌∙◌}
use Rattle.std.specs.Prelude.{max}
use Rattle.closure_lift.specs.declared.program.Function.{Function}
use Rattle.wasm_emit.specs.Pushed.{function_in}
use Rattle.wasm_emit.proofs.Listed.{functions_in}
use Rattle.known_calls.specs.KnownModule.{widest_worker}
use Rattle.known_calls.proofs.KnownEmitting.{widest_more}
use Rattle.known_calls.proofs.emission.widest_worker.Goals as goal
use Rattle.trees.proofs.Lists.{next_is}

pub loop-f-preserved : goal.loop-f-preserved
loop-f-preserved c =
    let Q = c.args.p.now in
    let items = c.as_slice-f-items.result.now in
    let f = c.f-item.result in
    let rest = functions_in Q (drop (c.loop-f.f-index + 1) items) in
    sym (widest_more (function_in Q f) rest c.loop-f.most c.wider-most.result f.captured refl (sym c.wider-most.ensures.is))
    ∙ ap (λ (fs : List Function). max c.loop-f.most (widest_worker (functions_in Q fs))) (sym (next_is items c.loop-f.f-index f c.loop-f-test.true c.f-item.is))
    ∙ c.loop-f.invariant
