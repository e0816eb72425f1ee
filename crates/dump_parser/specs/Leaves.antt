-- The term of a leaf.
use Rattle.dump_grammar.specs.Named as g
use Rattle.dump_parser.specs.declared.leaves.Leaf.{Leaf}
use Rattle.dump_parser.specs.declared.leaves.Leaf.TheVariants.{Rel, Const, Ind, Construct}

abbrev pub leaf_named : Leaf → g.Named
leaf_named (Rel n) = g.Rel n
leaf_named (Const k) = g.Const k.now
leaf_named (Ind k n) = g.Ind k.now n
leaf_named (Construct k n c) = g.Construct k.now n c
