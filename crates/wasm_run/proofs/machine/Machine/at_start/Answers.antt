use Rattle.wasm_run.specs.Threads.{state_of}
use Rattle.wasm_run.proofs.HostCalls.{is_at_start}
use Rattle.wasm_run.proofs.machine.Machine.at_start.Goals as goal

pub returns : goal.returns
returns c =
    let a = c.self.inside in
    let none = rw (← c.self.view_is) at c.requires.unmade in
    record { start = rw (← c.self.view_is) (λ sound. is_at_start a.program a.cap a.made a.failed (state_of a.program a.ended a.thread) none (c.self.invariant.reached sound)) }
