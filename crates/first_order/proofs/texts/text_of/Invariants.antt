use Rattle.std.proofs.Common.{length, drop}
use Rattle.data_trees.specs.Preorder.{IsForest}
use Rattle.first_order.specs.Texts.{by_shapes, write}
use Rattle.first_order.proofs.Written.{Writes}
use Rattle.first_order.proofs.texts.text_of.Given as goal

abbrev pub invariant-loop-i : goal.invariant-loop-i
invariant-loop-i l = record {
  writes : Writes (by_shapes l.shapes.types l.names) (write (by_shapes l.shapes.types l.names) l.tree) l.text.items l.waiting.items (drop l.i l.tree) l.i;
  forest : IsForest (length l.waiting.items) (drop l.i l.tree);
}
