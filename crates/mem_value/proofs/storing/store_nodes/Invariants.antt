use Rattle.std.proofs.Common.{◌-◌, length, reverse, drop, Ok}
use Rattle.wasm_core.specs.Runs.{store_of}
use Rattle.mem_value.specs.Storing.{StackSays, put_nodes}
use Rattle.mem_value.proofs.storing.store_nodes.Given as goal

abbrev pub invariant-loop-past : goal.invariant-loop-past
invariant-loop-past l =
    StackSays l.fn.machine l.machine (reverse l.words.items) (put_nodes l.fn.machine.program l.fn.machine.cap (drop (length l.data - l.past) l.data) (record { store = store_of l.fn.machine.state; words = reverse l.fn.words.items })) (Ok tt)
