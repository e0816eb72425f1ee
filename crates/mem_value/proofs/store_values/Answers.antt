use Rattle.std.proofs.Common.{◌∙◌, List, ℕ, Ok, reverse, subst}
use Rattle.wasm_core.specs.Runs.{store_of}
use Rattle.mem_value.specs.Storing.{StackSays, PutSays, put_trees}
use Rattle.mem_value.proofs.Placing.{values_says}
use Rattle.mem_value.proofs.store_values.Goals as goal

pub returns-in-Ok-put-clause-says : goal.returns-in-Ok-put-clause-says
returns-in-Ok-put-clause-says c =
    let M = c.args.m.now in let mid = c.store_trees.new.machine in
    let ws = reverse c.store_trees.new.words.items in
    let trees = subst (λ (xs : List ℕ). StackSays M mid ws (put_trees M.program M.cap c.args.args.now (record { store = store_of M.state; words = reverse xs })) (Ok tt)) c.new-words.ensures.items c.in-Ok.ensures.says in
    let put = subst (λ (xs : List ℕ). PutSays mid c.put.new.machine xs (Ok c.in-Ok-put.address)) (c.as_slice.ensures.value ∙ c.reverse.ensures.items) c.in-Ok-put.ensures.says in
    values_says M mid c.put.new.machine c.set_args.new.self c.args.args.now ws c.in-Ok-put.address trees put c.set_args.ensures.is c.requires.heap c.at_start.ensures.start c.requires.for_call c.requires.small c.in-Ok.ensures.trees
