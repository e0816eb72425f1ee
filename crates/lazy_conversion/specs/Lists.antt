-- What a list of terms under bindings is.
use Rattle.std.specs.Prelude.{List, map}
use Rattle.trees.specs.Substitution.{walk}
use Rattle.pc_terms.specs.Syntax.{Term}
use Rattle.reduce_machine.specs.Reads.{stands_under}
use Rattle.lazy_conversion.specs.declared.lists.Parts.{Parts}

abbrev pub read_list : Parts → List Term
read_list l = map (walk (stands_under l.env.now.items) l.under) l.terms.now
