use Rattle.std.proofs.Common.{◌≡◌}
use Rattle.pc_rules.specs.Trie.{at}
use Rattle.pc_rules.proofs.number_map.NumberMap.get.Given as goal

abbrev pub invariant-loop-map : goal.invariant-loop-map
invariant-loop-map g l = at l.map l.rest ≡ at l.self l.number

abbrev pub decreases-loop-map : goal.decreases-loop-map
decreases-loop-map g l = l.rest
