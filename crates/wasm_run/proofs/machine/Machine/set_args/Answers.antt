use Rattle.std.proofs.Common.{◌≡◌, ◌≤◌, List, Some, refl, sym, ap, subst, arith}
use Rattle.wasm_core.specs.declared.types.ConstValue.{ConstValue}
use Rattle.wasm_core.specs.declared.entries.Entry.TheVariants.{Args}
use Rattle.wasm_core.specs.Entries.{index_of}
use Rattle.wasm_core.specs.HostStore.{IsForCall, set_at}
use Rattle.wasm_core.specs.MachineRun.{MachineShown}
use Rattle.wasm_run.specs.Threads.{state_of, store_in}
use Rattle.wasm_run.specs.declared.thread.Thread.{Thread}
use Rattle.wasm_run.proofs.HostCalls.{kept_start, is_at_start, thread_ready, ready_set}
use Rattle.wasm_run.proofs.machine.Machine.set_args.Goals as goal

pub invariant_of-self : goal.invariant_of-self
invariant_of-self c =
    let a = c.self.inside in let m = a.program in
    let none = rw (← c.self.view_is) at c.requires.unmade in
    let call = subst (λ (s : MachineShown). IsForCall s.program) (sym c.self.view_is) c.requires.for_call in
    let at = subst (λ x. index_of Args m ≡ Some x) (sym (c.self.invariant.args_at call.args_at call.args)) call.args in
    let t : Thread = record { current = a.thread.current; callers = a.thread.callers; pages = a.thread.pages; memory = a.thread.memory; globals = c.set_i32.new.globals; refused = a.thread.refused; by_choice = a.thread.by_choice } in
    let small : c.args.address ≤ 4294967295 = grind arith in
    let same : store_in t ≡ set_at (Some a.args_at) c.args.address (store_in a.thread) = ap (λ (gs : List ConstValue). record (store_in a.thread) { globals = gs }) c.set_i32.ensures.is in
    record {
      valid = c.self.invariant.valid;
      words = c.self.invariant.words;
      reached = λ sound.
          let r = c.self.invariant.reached sound in
          kept_start m a.made a.ended a.thread t (set_at (Some a.args_at) c.args.address (store_in a.thread)) none call refl refl same
          (ready_set m c.self.invariant.valid Args tt a.args_at at c.args.address small (store_in a.thread) (thread_ready m a.made a.ended a.thread none r)) r;
      result_at = c.self.invariant.result_at;
      status_at = c.self.invariant.status_at;
      heap_at = c.self.invariant.heap_at;
      args_at = c.self.invariant.args_at;
    }

pub returns-clause-start : goal.returns-clause-start
returns-clause-start c = λ sound.
    let a = c.self.inside in let m = a.program in
    let none = rw (← c.self.view_is) at c.requires.unmade in
    let t : Thread = record { current = a.thread.current; callers = a.thread.callers; pages = a.thread.pages; memory = a.thread.memory; globals = c.set_i32.new.globals; refused = a.thread.refused; by_choice = a.thread.by_choice } in
    is_at_start m a.cap a.made a.failed (state_of m a.ended t) none ((invariant_of-self c).reached sound)
