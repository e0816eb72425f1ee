-- Calls of reading in one another go down a term, or to a binding that lies less deep.
use Rattle.std.proofs.Common.{ℕ, ◌+◌, ◌*◌, ◌<◌, ◌≤◌, arith}
use Rattle.trees.specs.Tree.{terms_of}
use Rattle.trees.specs.Measures.{depth, depth_trees, depth_limit}
use Rattle.pc_terms.specs.Lists.{arms_of}
use Rattle.pc_terms.specs.View.{tree_of}
use Rattle.pc_terms.specs.declared.term.Match.{Match}
use Rattle.pc_terms.specs.declared.term.Node.TheVariants.{Case}

-- the parts of a match
pub params_fall : (m : Match) → depth_trees (terms_of m.params) + 1 ≤ depth (tree_of (Case m))
params_fall m = omega arith

pub predicate_falls : (m : Match) → depth m.ret + 1 ≤ depth (tree_of (Case m))
predicate_falls m = omega arith

pub scrutinee_falls : (m : Match) → depth m.scrut + 1 ≤ depth (tree_of (Case m))
scrutinee_falls m = omega arith

pub branches_fall : (m : Match) → depth_trees (arms_of m.branches) + 1 ≤ depth (tree_of (Case m))
branches_fall m = omega arith

-- a binding that lies less deep
pub binding_falls : (r s d : ℕ) → s < r → d ≤ depth_limit → 10000 * s + 4 * d + 2 < 10000 * r
binding_falls r s d h k = omega arith

pub ruleset falling_laws = (params_fall, predicate_falls, scrutinee_falls, branches_fall)
