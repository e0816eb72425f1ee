use Rattle.std.proofs.Common.{◌+◌, ◌*◌, ◌≤◌, length, List, ℕ, sym, ap, ◌∙◌, subst}
use Rattle.wasm_core.specs.MachineStep.{Store}
use Rattle.wasm_run.specs.Threads.{store_in}
use Rattle.wasm_run.proofs.HostCalls.{held_has}
use Rattle.wasm_run.proofs.hosting.put_block.Goals as goal

pub put_words-requires : goal.put_words-requires
put_words-requires c =
    let past = c.args.at + 4 * length c.args.words.now in
    record { inside = subst (λ (xs : List ℕ). past ≤ length xs) (sym (c.deref_mut.ensures.value ∙ ap (λ (s : Store). s.memory) c.in_ok-hold.ensures.is)) (held_has past (store_in c.args.thread.now) c.requires.sized) }
