-- The limits of terms, for a term that stands under so many nodes: depth at most 2,048 with them, and variable numbers of 32 bits.
use Rattle.std.specs.Prelude.{ℕ, ◌+◌, ◌<◌, ◌^◌, ◌⊎◌, List}
use Rattle.trees.specs.Measures.{depth, depth_trees, above, above_trees, depth_limit}
use Rattle.pc_terms.specs.Syntax.{Term, Terms}
use Rattle.pc_terms.specs.Lists.{depth_defs, above_defs}
use Rattle.pc_terms.specs.declared.term.Def.{Def}

abbrev pub IsBeyondUnder : ℕ → Term → Type 0
IsBeyondUnder n t = (depth_limit < n + depth t) ⊎ (2 ^ 32 < above t)

abbrev pub AreBeyondUnder : ℕ → Terms → Type 0
AreBeyondUnder n ts = (depth_limit < n + depth_trees ts) ⊎ (2 ^ 32 < above_trees ts)

abbrev pub AreDefsBeyondUnder : ℕ → List Def → Type 0
AreDefsBeyondUnder n ds = (depth_limit < n + depth_defs ds) ⊎ (2 ^ 32 < above_defs ds)
