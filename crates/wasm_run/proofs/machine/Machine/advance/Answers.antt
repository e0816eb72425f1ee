use Rattle.std.proofs.Common.{◌≡◌, ◌∙◌, ◌+◌, ◌-◌, ◌^◌, arith, ap}
use Rattle.std.specs.Prelude.{min, max}
use Rattle.wasm_core.specs.Runs.{grants}
use Rattle.wasm_run.specs.Threads.{conf_of, state_of}
use Rattle.wasm_run.proofs.Running.{going, can_step, has_size, moved}
use Rattle.wasm_run.proofs.machine.Machine.advance.Goals as goal

pub run_step-requires-clause-sized : goal.run_step-requires-clause-sized
run_step-requires-clause-sized c =
    let sound = rw (← c.self.view_is) at c.requires.sound in
    let on = rw (← c.self.view_is) at c.requires.goes_on in
    let a = c.self.inside in let m = a.program in
    has_size c.hosted_words_stay.ensures.holds m c.self.invariant.words (conf_of m a.thread) a.made (going m a.ended a.thread on a.made (c.self.invariant.reached sound))

pub run_step-requires-clause-some : goal.run_step-requires-clause-some
run_step-requires-clause-some c =
    let sound = rw (← c.self.view_is) at c.requires.sound in
    let on = rw (← c.self.view_is) at c.requires.goes_on in
    let a = c.self.inside in let m = a.program in
    can_step c.hosted_never_stuck.ensures.holds m c.self.invariant.valid (conf_of m a.thread) a.made (going m a.ended a.thread on a.made (c.self.invariant.reached sound)) (grants a.cap (conf_of m a.thread))

pub invariant_of-self : goal.invariant_of-self
invariant_of-self c =
    let sound = rw (← c.self.view_is) at c.requires.sound in
    let on = rw (← c.self.view_is) at c.requires.goes_on in
    let a = c.self.inside in let m = a.program in
    let count : c.saturating_add-self-inside.result ≡ min (a.made + 1) (2 ^ 64 - 1) = grind arith in
    record {
      valid = c.self.invariant.valid;
      words = c.self.invariant.words;
      reached = λ _. moved m a.cap (conf_of m a.thread) (state_of m c.in-Ok.ended c.run_step.new.thread) a.made c.saturating_add-self-inside.result c.higher-self-inside.result (going m a.ended a.thread on a.made (c.self.invariant.reached sound)) count (c.higher-self-inside.ensures.is ∙ ap (max a.peak) c.standing-frames.ensures.is) c.in-Ok.ensures.is;
      result_at = c.self.invariant.result_at;
      status_at = c.self.invariant.status_at;
      heap_at = c.self.invariant.heap_at;
      args_at = c.self.invariant.args_at;
    }
