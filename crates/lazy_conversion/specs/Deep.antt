-- Two terms, or two lists of them, that both go deeper than terms do, below so many nodes.
use Rattle.std.specs.Prelude.{ℕ, ◌+◌, ◌<◌, max, List}
use Rattle.trees.specs.Measures.{depth, depth_trees, depth_limit}
use Rattle.pc_terms.specs.Syntax.{Term, Terms}
use Rattle.pc_terms.specs.Lists.{depth_defs}
use Rattle.pc_terms.specs.declared.term.Def.{Def}

abbrev pub AreDeep : ℕ → Term → Term → Type 0
AreDeep n t u = (depth_limit < n + depth t) × (depth_limit < n + depth u)

abbrev pub AreDeepLists : ℕ → Terms → Terms → Type 0
AreDeepLists n ts us = (depth_limit < n + depth_trees ts) × (depth_limit < n + depth_trees us)

abbrev pub AreDeepDefs : ℕ → List Def → List Def → Type 0
AreDeepDefs n ds es = (depth_limit < n + depth_defs ds) × (depth_limit < n + depth_defs es)

abbrev pub AreDeepDef : ℕ → Def → Def → Type 0
AreDeepDef n d e = (depth_limit < n + max (depth d.ty) (depth d.body)) × (depth_limit < n + max (depth e.ty) (depth e.body))

-- n nodes stand above the parts of both
abbrev pub AreDeepNodes : ℕ → Term → Term → Type 0
AreDeepNodes n t u = (depth_limit + 1 < n + depth t) × (depth_limit + 1 < n + depth u)
