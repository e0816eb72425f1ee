use Rattle.std.proofs.Common.{◌≡◌, ◌<◌, ◌^◌, ◌++◌, ◌∷◌, List, length, reverse}
use Rattle.sexp_reader.specs.Stream.{source, stream}
use Rattle.calculus_rules.specs.FirstOrder.{Data}
use Rattle.data_trees.specs.Preorder.{IsForest, IsTree}
use Rattle.first_order.specs.Awaited.{Awaited, AwaitsItem, with_nodes}
use Rattle.first_order.specs.Nexts.{trees, all_awaited, reading_on}
use Rattle.first_order.proofs.given.argument.Given as goal

abbrev pub invariant-next : goal.invariant-next
invariant-next l = record {
  same : source l.tokens ≡ source l.fn.tokens;
  goes : (xs : List Awaited) → reading_on l.names l.fn.tokens (AwaitsItem l.fn.turn l.shapes.types 0 ∷ xs) ≡ with_nodes l.nodes.items (reading_on l.names l.tokens (all_awaited l.shapes.types l.waiting.items ++ xs));
  forest : (rest : Data) → IsForest (trees (reverse l.waiting.items)) rest → IsTree (l.nodes.items ++ rest);
  few : length l.nodes.items < 2 ^ 32;
}

abbrev pub decreases-next : goal.decreases-next
decreases-next l = length (stream l.tokens)
