use Rattle.std.proofs.Common.{◌-◌, length, reverse, drop, Ok}
use Rattle.data_trees.specs.Preorder.{IsTree}
use Rattle.wasm_core.specs.ModuleCondition.{All as Each}
use Rattle.wasm_core.specs.Runs.{store_of}
use Rattle.mem_value.specs.Storing.{StackSays, put_trees}
use Rattle.mem_value.proofs.storing.store_trees.Given as goal

abbrev pub invariant-loop-past : goal.invariant-loop-past
invariant-loop-past l =
    StackSays l.fn.machine l.machine (reverse l.words.items) (put_trees l.fn.machine.program l.fn.machine.cap (drop (length l.trees - l.past) l.trees) (record { store = store_of l.fn.machine.state; words = reverse l.fn.words.items })) (Ok tt) ×
    Each IsTree (drop (length l.trees - l.past) l.trees)
