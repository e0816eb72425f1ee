-- What a part of a term under bindings is: the part with what its free variables are bound to in their place.
use Rattle.std.specs.Prelude.{List}
use Rattle.trees.specs.Substitution.{walk}
use Rattle.pc_terms.specs.Syntax.{Term}
use Rattle.pc_terms.specs.View.{tree_of}
use Rattle.pc_terms.specs.declared.term.Match.{Match}
use Rattle.pc_terms.specs.declared.term.Node.TheVariants.{Case}
use Rattle.reduction.specs.Frames.{with_scrutinee}
use Rattle.reduce_machine.specs.Reads.{stands_under}
use Rattle.lazy_conversion.specs.declared.part.Part.{Part}

abbrev pub read_part : Part → Term
read_part p = walk (stands_under p.env.now.items) p.under p.term.now

-- a match under bindings, around t
abbrev pub read_around : Match → List Term → Term → Term
read_around m xs t = with_scrutinee (walk (stands_under xs) 0 (tree_of (Case m))) t
