use Rattle.std.proofs.Common.{◌≡◌, Err, true, false, sym, ap, subst, ◌∙◌}
use Rattle.wasm_core.specs.MachineRun.{MachineShown}
use Rattle.mem_value.specs.Storing.{StoreSays}
use Rattle.module_run.proofs.CallEnding.{heap_there, hosted_at, lacks_room}
use Rattle.module_run.proofs.call_answering.hosted.Goals as goal

pub store_values-requires-clause-unmade : goal.store_values-requires-clause-unmade
store_values-requires-clause-unmade c = ap (λ (a : MachineShown). a.made) c.in_ok-machine.ensures.fresh.2

pub store_values-requires-clause-heap : goal.store_values-requires-clause-heap
store_values-requires-clause-heap c = λ sound. heap_there c.args.program.now c.args.cap c.in_ok-machine.machine c.in_ok-machine.ensures.fresh c.requires.heap

pub returns-in-Ok : goal.returns-in-Ok
returns-in-Ok c =
    let (sound, (s, put, stored, is)) = c.in-Ok.ensures.says in
    record { says = hosted_at c.args.program.now c.args.cap c.args.arguments.now c.in_ok-machine.machine c.store_values.new.m s c.in_ok-machine.ensures.fresh put is }

pub returns-in-Err-Exhausted : goal.returns-in-Err-Exhausted
returns-in-Err-Exhausted c =
    let h = subst (λ x. StoreSays c.in_ok-machine.machine c.store_values.new.m c.args.arguments.now (Err x)) c.in-Err-Exhausted.field-0-is c.in-Err-Exhausted.ensures.says in
    record { says = lacks_room c.args.program.now c.args.cap c.args.arguments.now c.in_ok-machine.machine c.in_ok-machine.ensures.fresh h.2 }

pub unreachable-requires : goal.unreachable-requires
unreachable-requires c =
    let h = subst (λ x. StoreSays c.in_ok-machine.machine c.store_values.new.m c.args.arguments.now (Err x)) c.in-Err-Failed.field-0-is c.in-Err-Failed.ensures.says in
    let q : true ≡ false = sym h.0 ∙ ap (λ (a : MachineShown). a.failed) c.in_ok-machine.ensures.fresh.2 in
    cc
