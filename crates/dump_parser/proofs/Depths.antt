-- Depths of lists, as a loop finds them, and the limit of depth.
use Rattle.std.proofs.Common.{◌≡◌, ℕ, suc, ◌+◌, ◌<◌, ◌≤◌, List, [], ◌∷◌, max, map, Some, None, refl, ap, ◌∙◌, arith}
use Rattle.std.proofs.lemmas.Bool.{le-leb, lt-leb}
use denote.Param.Weighed.{most}
use Rattle.dump_grammar.specs.Named as g
use Rattle.dump_grammar.specs.Named.{Named, terms_of, branches_of, defs_of, depth, depth_terms, depth_branches, depth_defs}
use Rattle.dump_grammar.specs.declared.refusal.Limit.TheVariants as limits
use Rattle.dump_grammar.specs.Limits.{depth_over, depth_limit}
use Rattle.dump_parser.specs.declared.tree.Branch.{Branch}
use Rattle.dump_parser.specs.declared.tree.Def.{Def}
use Rattle.dump_parser.specs.Tree.{named_branch, named_def, applied}
use Rattle.dump_parser.specs.declared.leaves.Leaf.{Leaf}
use Rattle.dump_parser.specs.declared.leaves.Leaf.TheVariants as leaves
use Rattle.dump_parser.specs.Leaves.{leaf_named}

pub depth_terms-most : (xs : List Named) → depth_terms (terms_of xs) ≡ most (λ x. depth x) xs
unfolding depth
depth_terms-most [] = refl
depth_terms-most (x ∷ xs) = ap (max (depth x)) (depth_terms-most xs)

pub depth_branches-most : (xs : List Branch) → depth_branches (branches_of (map named_branch xs)) ≡ most (λ x. depth x.body) xs
unfolding depth
depth_branches-most [] = refl
depth_branches-most (x ∷ xs) = ap (max (depth x.body)) (depth_branches-most xs)

pub depth_defs-most : (xs : List Def) → depth_defs (defs_of (map named_def xs)) ≡ most (λ x. max (depth x.ty) (depth x.body)) xs
unfolding depth
depth_defs-most [] = refl
depth_defs-most (x ∷ xs) = ap (max (max (depth x.ty) (depth x.body))) (depth_defs-most xs)

pub ruleset deepest_laws = (depth_terms-most, depth_branches-most, depth_defs-most)

-- the depth of a term of this depth, applied to arguments
abbrev pub deepened : ℕ → List Named → ℕ
deepened d [] = d
deepened d (t ∷ ts) = deepened (max d (depth t) + 1) ts

pub deepened-applied : (f : Named) (ts : List Named) → deepened (depth f) ts ≡ depth (applied f ts)
unfolding depth
deepened-applied f [] = refl
deepened-applied f (t ∷ ts) =
    let one : max (depth f) (depth t) + 1 ≡ suc (max (depth f) (depth t)) = omega arith in
    ap (λ d. deepened d ts) one ∙ deepened-applied (g.App f t) ts

pub depth-fits : (t : Named) → depth t ≤ depth_limit → depth_over t ≡ None
unfolding depth_over
depth-fits t h = rw (le-leb (depth t) depth_limit h) refl

pub depth-over : (t : Named) → depth_limit < depth t → depth_over t ≡ Some limits.Depth
unfolding depth_over
depth-over t h = rw (lt-leb (depth t) depth_limit h) refl

pub ruleset depth_laws = (depth-fits, depth-over)

pub leaf_fits : (l : Leaf) → depth_over (leaf_named l) ≡ None
unfolding depth_over depth
leaf_fits (leaves.Rel n) = refl
leaf_fits (leaves.Const k) = refl
leaf_fits (leaves.Ind k n) = refl
leaf_fits (leaves.Construct k n c) = refl

pub ruleset leaf_depth = (leaf_fits)
