use Rattle.std.proofs.Common.{◌-◌, ◌≤◌, length}
use Rattle.first_order.specs.Reading.{read}
use Rattle.first_order.proofs.NodeByNode.{Reads}
use Rattle.first_order.proofs.reading.data_of.Given as goal

abbrev pub invariant-next : goal.invariant-next
invariant-next l = record {
  reads : Reads l.shapes.types (read l.shapes.types l.value) l.nodes.items l.waiting.items;
  few : length l.nodes.items ≤ 4000000;
}

abbrev pub decreases-next : goal.decreases-next
decreases-next l = 4000000 - length l.nodes.items
