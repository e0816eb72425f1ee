use Rattle.std.proofs.Common.{◌≡◌, ◌+◌, ◌*◌, ◌∙◌, Some, length, sym, subst}
use Rattle.wasm_core.specs.declared.entries.Entry.TheVariants.{Heap}
use Rattle.wasm_core.specs.Entries.{index_of}
use Rattle.wasm_core.specs.HostStore.{IsForCall, set_at}
use Rattle.wasm_core.specs.MachineRun.{MachineShown}
use Rattle.wasm_run.specs.Hosting.{put_in}
use Rattle.wasm_run.specs.Threads.{state_of, store_in}
use Rattle.wasm_run.proofs.HostCalls.{kept_start, is_at_start, thread_ready, ready_set, ready_put, room_small}
use Rattle.wasm_run.proofs.machine.Machine.host_block.Goals as goal

pub returns-then-not-has_room-clause-start : goal.returns-then-not-has_room-clause-start
returns-then-not-has_room-clause-start c =
    let a = c.self.inside in
    let none = rw (← c.self.view_is) at c.requires.unmade in
    rw (← c.self.view_is) (λ sound. is_at_start a.program a.cap a.made a.failed (state_of a.program a.ended a.thread) none (c.self.invariant.reached sound))

pub invariant_of-self-in_default : goal.invariant_of-self-in_default
invariant_of-self-in_default c =
    let a = c.self.inside in let m = a.program in
    let none = rw (← c.self.view_is) at c.requires.unmade in
    let call = subst (λ (s : MachineShown). IsForCall s.program) (sym c.self.view_is) c.requires.for_call in
    let index = subst (λ x. index_of Heap m ≡ Some x) (sym (c.self.invariant.heap_at call.heap_at call.heap)) call.heap in
    let at = c.heap-at.result in
    let ws = c.args.words.now in
    let past = at + 4 * length ws in
    let small = room_small m a.cap past (sym c.has_room.ensures.is ∙ c.if-not-has_room.false) in
    let st = set_at (Some a.heap_at) past (put_in at ws (store_in a.thread)) in
    record {
      valid = c.self.invariant.valid;
      words = c.self.invariant.words;
      reached = λ sound.
          let r = c.self.invariant.reached sound in
          let ready = ready_put m at ws (store_in a.thread) small (thread_ready m a.made a.ended a.thread none r) in
          kept_start m a.made a.ended a.thread c.put_block.new.thread st none call c.in_default.ensures.frames.0 c.in_default.ensures.frames.1 c.in_default.ensures.is
          (ready_set m c.self.invariant.valid Heap tt a.heap_at index past small (put_in at ws (store_in a.thread)) ready) r;
      result_at = c.self.invariant.result_at;
      status_at = c.self.invariant.status_at;
      heap_at = c.self.invariant.heap_at;
      args_at = c.self.invariant.args_at;
    }

pub returns-clause-start : goal.returns-clause-start
returns-clause-start c = λ sound.
    let a = c.self.inside in let m = a.program in
    let none = rw (← c.self.view_is) at c.requires.unmade in
    is_at_start m a.cap a.made a.failed (state_of m a.ended c.put_block.new.thread) none ((invariant_of-self-in_default c).reached sound)
