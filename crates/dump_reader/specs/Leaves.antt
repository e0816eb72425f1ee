-- The term of a leaf.
use Rattle.universe_levels.specs.declared.sort.Sort.TheVariants as sorts
use Rattle.pc_terms.specs.Syntax as terms
use Rattle.dump_reader.specs.declared.leaves.Leaf.{Leaf}
use Rattle.dump_reader.specs.declared.leaves.Leaf.TheVariants.{Rel, Prop, Const, Ind, Construct}

abbrev pub leaf_term : Leaf → terms.Term
leaf_term (Rel n) = terms.Rel n
leaf_term Prop = terms.SortT sorts.Prop
leaf_term (Const k) = terms.Const k
leaf_term (Ind f) = terms.Ind f
leaf_term (Construct f c) = terms.Construct f c
