use Rattle.std.proofs.Common.{◌≡◌, ◌∙◌, ap, sym, subst, Some, List}
use Rattle.std.specs.Prelude.{slice_get}
use Rattle.wasm_core.specs.declared.types.ConstValue.{ConstValue}
use Rattle.wasm_core.specs.declared.entries.Entry.TheVariants.{Heap}
use Rattle.wasm_core.specs.Entries.{index_of}
use Rattle.wasm_core.specs.HostStore.{IsForCall}
use Rattle.wasm_core.specs.MachineRun.{MachineShown}
use Rattle.wasm_core.specs.MachineStep.{Store}
use Rattle.wasm_run.specs.Threads.{state_of}
use Rattle.wasm_run.proofs.Running.{answer_is, store_of_state}
use Rattle.wasm_run.proofs.machine.Machine.heap.Goals as goal

pub returns : goal.returns
returns c =
    let a = c.self.inside in
    let call = subst (λ (s : MachineShown). IsForCall s.program) (sym c.self.view_is) c.requires.for_call in
    let at = subst (λ x. index_of Heap a.program ≡ Some x) (sym (c.self.invariant.heap_at call.heap_at call.heap)) call.heap in
    record {
      is = rw (← c.self.view_is) (λ sound.
          answer_is c.hosted_entries_are_there.ensures.holds a.program Heap a.heap_at (state_of a.program a.ended a.thread) a.made tt c.self.invariant.valid (c.self.invariant.reached sound) at c.i32_at.result
          (λ k e. c.i32_at.ensures.is k (ap (λ (gs : List ConstValue). slice_get gs a.heap_at) (c.as_slice.ensures.value ∙ sym (ap (λ (s : Store). s.globals) (store_of_state a.program a.ended a.thread))) ∙ e)));
    }
