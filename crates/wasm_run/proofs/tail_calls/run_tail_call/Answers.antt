use Rattle.std.proofs.Common.{map, reverse, refl}
use Rattle.wasm_core.specs.Instance.{func_of}
use Rattle.wasm_run.specs.Threads.{frame_in, store_in}
use Rattle.wasm_run.proofs.Threads.{tail_some}
use Rattle.wasm_run.proofs.tail_calls.run_tail_call.Goals as goal

pub returns : goal.returns
returns c =
    let m = c.args.program.now in let t = c.args.thread.now in
    record { is = tail_some m (store_in t) (map (frame_in m) (reverse t.callers.items)) t.current c.args.index (func_of m c.args.index) refl c.requires.func c.requires.some c.func_type-of.result.now c.func_type-of.ensures.is c.locals-others.result.now c.locals-others.ensures.is c.in_ok-frame.frame c.in_ok-frame.ensures.is }
