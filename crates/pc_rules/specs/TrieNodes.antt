-- The trie of a map from numbers.
use Rattle.std.specs.Prelude.{Option, Some, None}
use Rattle.std.specs.declared.alloc.Global.{Global}
use Rattle.std.specs.declared.rc.Rc.{Rc}
use Rattle.pc_rules.specs.declared.number_map.MapNode.{MapNode}
use Rattle.pc_rules.specs.Trie.{Trie, Nil, Fork}

abbrev pub contents : {T : Type 0} → Option (Rc T Global) → Option T
contents None = None
contents (Some rc) = Some rc.value

abbrev pub trie_of_node : {T : Type 0} → MapNode T → Trie T
trie_of_node n = Fork (contents n.item) n.odd n.even

abbrev pub trie_of : {T : Type 0} → Option (Rc (MapNode T) Global) → Trie T
trie_of None = Nil
trie_of (Some rc) = trie_of_node rc.value
