use Rattle.std.proofs.Common.{◌≡◌, ◌+◌, ◌-◌, ◌≤◌, Ok, Err, drop, length, reverse, subst, arith}
use Rattle.std.proofs.lemmas.List.{length-reverse}
use Rattle.wasm_core.specs.Runs.{store_of}
use Rattle.wasm_core.proofs.Eaches.{each_get}
use Rattle.mem_value.specs.Storing.{IsSmallNode, StackSays, put_nodes}
use Rattle.mem_value.proofs.Stacks.{nodes_start, fields_wait, node_goes, nodes_fault}
use Rattle.mem_value.proofs.storing.store_nodes.Goals as goal

pub loop-past-init : goal.loop-past-init
loop-past-init c = nodes_start c.args.machine.now (reverse c.args.words.now.items) c.args.data.now

pub store_node-requires-clause-there : goal.store_node-requires-clause-there
store_node-requires-clause-there c =
    let M = c.args.machine.now in let d = c.args.data.now in let start = reverse c.args.words.now.items in let ws = reverse c.loop-past.words.items in
    let i = c.len-len.result - 1 - c.loop-past.past in
    let e : length d - c.loop-past.past ≡ i + 1 = grind arith in
    let says = subst (λ k. StackSays M c.loop-past.machine ws (put_nodes M.program M.cap (drop k d) (record { store = store_of M.state; words = start })) (Ok tt)) e c.loop-past.invariant in
    subst (λ n. c.node-number.result.1 ≤ n) (length-reverse c.loop-past.words.items) (fields_wait M c.loop-past.machine ws start d i c.node-number.result c.len-len.ensures.tree c.node-number.ensures.at says)

pub store_node-requires-clause-small : goal.store_node-requires-clause-small
store_node-requires-clause-small c = each_get IsSmallNode c.args.data.now (c.len-len.result - 1 - c.loop-past.past) c.node-number.result c.requires.small c.node-number.ensures.at

pub returns-in-Err-clause-says : goal.returns-in-Err-clause-says
returns-in-Err-clause-says c =
    let M = c.args.machine.now in let d = c.args.data.now in let start = reverse c.args.words.now.items in let ws = reverse c.loop-past.words.items in
    let ws' = reverse c.store_node.new.words.items in
    let i = c.len-len.result - 1 - c.loop-past.past in
    let e : length d - c.loop-past.past ≡ i + 1 = grind arith in
    let says = subst (λ k. StackSays M c.loop-past.machine ws (put_nodes M.program M.cap (drop k d) (record { store = store_of M.state; words = start })) (Ok tt)) e c.loop-past.invariant in
    nodes_fault M c.store_node.new.machine ws' (record { store = store_of M.state; words = start }) i d c.in-Err.fault
    (node_goes M c.loop-past.machine c.store_node.new.machine ws ws' start d i c.node-number.result (Err c.in-Err.fault) c.node-number.ensures.at says c.in-Err.ensures.says)

pub loop-past-preserved : goal.loop-past-preserved
loop-past-preserved c =
    let M = c.args.machine.now in let d = c.args.data.now in let start = reverse c.args.words.now.items in let ws = reverse c.loop-past.words.items in
    let ws' = reverse c.store_node.new.words.items in
    let i = c.len-len.result - 1 - c.loop-past.past in
    let e : length d - c.loop-past.past ≡ i + 1 = grind arith in
    let next : i ≡ length d - (c.loop-past.past + 1) = grind arith in
    let says = subst (λ k. StackSays M c.loop-past.machine ws (put_nodes M.program M.cap (drop k d) (record { store = store_of M.state; words = start })) (Ok tt)) e c.loop-past.invariant in
    subst (λ k. StackSays M c.store_node.new.machine ws' (put_nodes M.program M.cap (drop k d) (record { store = store_of M.state; words = start })) (Ok tt)) next
    (node_goes M c.loop-past.machine c.store_node.new.machine ws ws' start d i c.node-number.result (Ok tt) c.node-number.ensures.at says c.in-Ok.ensures.says)
