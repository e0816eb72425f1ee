use Rattle.std.proofs.Common.{◌≡◌, ◌+◌, ◌-◌, Ok, Err, drop, length, reverse, subst, arith}
use Rattle.data_trees.specs.Preorder.{IsTree}
use Rattle.wasm_core.specs.ModuleCondition.{All as Each}
use Rattle.wasm_core.specs.Runs.{store_of}
use Rattle.mem_value.specs.Storing.{StackSays, put_trees}
use Rattle.mem_value.proofs.Stacks.{trees_start, tree_goes, trees_fault, trees_are, no_trees}
use Rattle.mem_value.proofs.storing.store_trees.Goals as goal

pub loop-past-init : goal.loop-past-init
loop-past-init c = (trees_start c.args.machine.now (reverse c.args.words.now.items) c.args.trees.now, no_trees c.args.trees.now)

pub returns-in-Err-clause-says : goal.returns-in-Err-clause-says
returns-in-Err-clause-says c =
    let M = c.args.machine.now in let ds = c.args.trees.now in let start = reverse c.args.words.now.items in let ws = reverse c.loop-past.words.items in
    let ws' = reverse c.store_nodes.new.words.items in
    let i = length ds - 1 - c.loop-past.past in
    let e : length ds - c.loop-past.past ≡ i + 1 = grind arith in
    let says = subst (λ k. StackSays M c.loop-past.machine ws (put_trees M.program M.cap (drop k ds) (record { store = store_of M.state; words = start })) (Ok tt)) e c.loop-past.invariant.0 in
    trees_fault M c.store_nodes.new.machine ws' (record { store = store_of M.state; words = start }) i ds c.in-Err.fault
    (tree_goes M c.loop-past.machine c.store_nodes.new.machine ws ws' start ds i c.tree_at-tree.result.now (Err c.in-Err.fault) c.tree_at-tree.ensures.is says c.in-Err.ensures.says)

pub loop-past-preserved : goal.loop-past-preserved
loop-past-preserved c =
    let M = c.args.machine.now in let ds = c.args.trees.now in let start = reverse c.args.words.now.items in let ws = reverse c.loop-past.words.items in
    let ws' = reverse c.store_nodes.new.words.items in
    let i = length ds - 1 - c.loop-past.past in
    let e : length ds - c.loop-past.past ≡ i + 1 = grind arith in
    let next : i ≡ length ds - (c.loop-past.past + 1) = grind arith in
    let says = subst (λ k. StackSays M c.loop-past.machine ws (put_trees M.program M.cap (drop k ds) (record { store = store_of M.state; words = start })) (Ok tt)) e c.loop-past.invariant.0 in
    let trees = subst (λ k. Each IsTree (drop k ds)) e c.loop-past.invariant.1 in (
      subst (λ k. StackSays M c.store_nodes.new.machine ws' (put_trees M.program M.cap (drop k ds) (record { store = store_of M.state; words = start })) (Ok tt)) next
          (tree_goes M c.loop-past.machine c.store_nodes.new.machine ws ws' start ds i c.tree_at-tree.result.now (Ok tt) c.tree_at-tree.ensures.is says c.in-Ok.ensures.says),
      subst (λ k. Each IsTree (drop k ds)) next (trees_are ds i c.tree_at-tree.result.now c.tree_at-tree.ensures.is c.store_nodes.ensures.tree trees),
    )
