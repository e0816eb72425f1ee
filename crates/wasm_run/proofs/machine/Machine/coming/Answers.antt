use Rattle.std.proofs.Common.{ap, ◌∙◌}
use Rattle.wasm_core.specs.Runs.{grants}
use Rattle.wasm_run.specs.Threads.{conf_of}
use Rattle.wasm_run.specs.ToldSteps.{step_facts}
use Rattle.wasm_run.proofs.Running.{going, can_step}
use Rattle.wasm_run.proofs.Telling.{at_place}
use Rattle.wasm_run.proofs.machine.Machine.coming.Goals as goal

pub next_facts-requires : goal.next_facts-requires
next_facts-requires c =
    let sound = rw (← c.self.view_is) at c.requires.sound in
    let on = rw (← c.self.view_is) at c.requires.goes_on in
    let a = c.self.inside in let m = a.program in
    record { some = can_step c.hosted_never_stuck.ensures.holds m c.self.invariant.valid (conf_of m a.thread) a.made (going m a.ended a.thread on a.made (c.self.invariant.reached sound)) (grants a.cap (conf_of m a.thread)) }

pub returns : goal.returns
returns c =
    let on = rw (← c.self.view_is) at c.requires.goes_on in
    let a = c.self.inside in let m = a.program in
    record { range = c.next_facts.ensures.range; is = rw (← c.self.view_is) (ap (step_facts m a.cap) (at_place m a.ended a.thread on) ∙ c.next_facts.ensures.is) }
