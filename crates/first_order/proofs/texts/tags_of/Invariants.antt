use Rattle.std.proofs.Common.{length, drop}
use Rattle.data_trees.specs.Preorder.{IsForest}
use Rattle.first_order.specs.Texts.{by_tags, write}
use Rattle.first_order.proofs.Written.{Writes}
use Rattle.first_order.proofs.texts.tags_of.Given as goal

abbrev pub invariant-loop-i : goal.invariant-loop-i
invariant-loop-i l = record {
  writes : Writes (by_tags) (write (by_tags) l.tree) l.text.items l.waiting.items (drop l.i l.tree) l.i;
  forest : IsForest (length l.waiting.items) (drop l.i l.tree);
}
