use Rattle.std.proofs.Common.{◌∙◌, ap, sym, List}
use Rattle.std.specs.Prelude.{slice_get}
use Rattle.wasm_core.specs.declared.types.ConstValue.{ConstValue}
use Rattle.wasm_core.specs.declared.entries.Entry.TheVariants.{Status}
use Rattle.wasm_core.specs.MachineStep.{Store}
use Rattle.wasm_run.specs.Threads.{state_of}
use Rattle.wasm_run.proofs.Running.{answer_is, store_of_state}
use Rattle.wasm_run.proofs.machine.Machine.status.Goals as goal

pub returns : goal.returns
returns c =
    let a = c.self.inside in
    record {
      is = rw (← c.self.view_is) (λ sound.
          answer_is c.hosted_entries_are_there.ensures.holds a.program Status a.status_at (state_of a.program a.ended a.thread) a.made tt c.self.invariant.valid (c.self.invariant.reached sound) c.self.invariant.status_at c.i32_at.result
          (λ k e. c.i32_at.ensures.is k (ap (λ (gs : List ConstValue). slice_get gs a.status_at) (c.as_slice.ensures.value ∙ sym (ap (λ (s : Store). s.globals) (store_of_state a.program a.ended a.thread))) ∙ e)));
    }
