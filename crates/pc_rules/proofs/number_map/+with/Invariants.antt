use Rattle.std.proofs.Common.{◌+◌, ◌*◌}
use Rattle.pc_rules.proofs.number_map.+with.Given as goal

abbrev pub decreases-MapNode::with_item : goal.decreases-MapNode::with_item
decreases-MapNode::with_item g l = l.number * 2

abbrev pub decreases-NumberMap::with : goal.decreases-NumberMap::with
decreases-NumberMap::with g l = l.number * 2 + 1
