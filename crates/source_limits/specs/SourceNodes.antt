-- The numbers of a source that bound the nodes of its saturated program: the nodes of main and of the bodies of constants, and the greatest number of parameters and arguments, together, of a constructor.
use Rattle.std.specs.Prelude.{ℕ, ◌+◌, ◌*◌, max, List, [], ◌∷◌, length}
use Rattle.trees.specs.Measures.{nodes}
use Rattle.pc_terms.specs.Syntax.{Term}
use Rattle.calculus_rules.specs.declared.declaration.Kept.{Kept}
use Rattle.calculus_rules.specs.declared.declaration.Kept.TheVariants.{Block as Whole}
use Rattle.calculus_rules.specs.Environment.{Env}
use Rattle.erase_rules.specs.ProgramNodes.{body_nodes}
use Rattle.headline.specs.SourceWords.{most_in_families}

abbrev pub source_nodes : Env → Term → ℕ
source_nodes E main = nodes main + body_nodes E.declarations

-- a block without constructors counts with its parameters alone
abbrev pub most_counts : List Kept → ℕ
most_counts [] = 0
most_counts (Whole B ∷ ds) = max (length B.params + most_in_families B.families) (most_counts ds)
most_counts (d ∷ ds) = most_counts ds

-- saturation makes no more nodes of a program than these
abbrev pub most_nodes : Env → Term → ℕ
most_nodes E main = source_nodes E main * (3 * most_counts E.declarations + 1)
