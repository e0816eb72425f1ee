use Rattle.std.proofs.Common.{◌≡◌, length, drop}
use Rattle.sexp_reader.specs.Stream.{source}
use Rattle.first_order.specs.declared.given.Turn.TheVariants.{First}
use Rattle.first_order.specs.Awaited.{arguments_in, argument_sets, with_nodes, joined, AreTrees}
use Rattle.first_order.specs.Nexts.{reading_on}
use Rattle.first_order.proofs.given.arguments.Given as goal

abbrev pub invariant-loop-set : goal.invariant-loop-set
invariant-loop-set l = record {
  same : source l.tokens ≡ source l.fn.tokens;
  counted : length l.read.items ≡ l.set-index;
  trees : AreTrees l.read.items;
  goes : reading_on l.names l.fn.tokens (arguments_in First (argument_sets l.sets)) ≡ with_nodes (joined l.read.items) (reading_on l.names l.tokens (arguments_in l.turn (argument_sets (drop l.set-index l.sets))));
}
