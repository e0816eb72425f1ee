use Rattle.mem_value.proofs.Preorder.{is_tree}
use Rattle.mem_value.proofs.answer_tree.Goals as goal

pub of-requires-clause-tree : goal.of-requires-clause-tree
of-requires-clause-tree c = is_tree c.memory-memory.result.now c.result-word.result c.in-Ok-Some.nodes.items (rw c.in-Ok-Some.field-0-is at c.in-Ok-Some.ensures.is).0
