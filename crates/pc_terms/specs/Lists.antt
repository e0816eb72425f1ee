-- The lists within a term, and what a walk does to each of their items.
use Rattle.std.specs.Prelude.{ℕ, ◌+◌, ◌<◌, ◌^◌, ◌⊎◌, max, List, [], ◌∷◌, length, map}
use Rattle.trees.specs.Tree.{Done, Next, terms_of}
use Rattle.pc_terms.specs.Syntax.{Term, Terms}
use Rattle.trees.specs.Measures.{depth, depth_trees, loose_trees, above_trees, depth_limit}
use Rattle.trees.specs.Substitution.{walk}
use Rattle.pc_terms.specs.declared.term.Branch.{Branch}
use Rattle.pc_terms.specs.declared.term.Def.{Def}
use Rattle.pc_terms.specs.declared.term.Match.{Match}

abbrev pub arms_of : List Branch → Terms
arms_of [] = Done
arms_of (b ∷ bs) = Next b.binders b.body (arms_of bs)

abbrev pub types_of : List Def → Terms
types_of [] = Done
types_of (d ∷ ds) = Next 0 d.ty (types_of ds)

-- the bodies, each under all m definitions
abbrev pub bodies_of : ℕ → List Def → Terms
bodies_of m [] = Done
bodies_of m (d ∷ ds) = Next m d.body (bodies_of m ds)

abbrev pub rargs_of : List Def → List ℕ
rargs_of [] = []
rargs_of (d ∷ ds) = d.rarg ∷ rargs_of ds

abbrev pub depth_defs : List Def → ℕ
depth_defs ds = max (depth_trees (types_of ds)) (depth_trees (bodies_of (length ds) ds))

abbrev pub above_defs : List Def → ℕ
above_defs ds = max (above_trees (types_of ds)) (above_trees (bodies_of (length ds) ds))

abbrev pub loose_defs : List Def → ℕ
loose_defs ds = max (loose_trees (types_of ds)) (loose_trees (bodies_of (length ds) ds))

abbrev pub depth_match : Match → ℕ
depth_match m = max (max (depth_trees (terms_of m.params)) (depth m.ret)) (max (depth m.scrut) (depth_trees (arms_of m.branches)))

abbrev pub AreBeyondDefs : List Def → Type 0
AreBeyondDefs ds = (depth_limit < depth_defs ds) ⊎ (2 ^ 32 < above_defs ds)

abbrev pub walk_branch : (ℕ → ℕ → Term) → ℕ → Branch → Branch
walk_branch f k b = record { binders = b.binders; body = walk f (k + b.binders) b.body }

abbrev pub walk_def : (ℕ → ℕ → Term) → ℕ → ℕ → Def → Def
walk_def f k m d = record { ty = walk f k d.ty; body = walk f (k + m) d.body; rarg = d.rarg }

abbrev pub walk_match : (ℕ → ℕ → Term) → ℕ → Match → Match
walk_match f k m = record {
  family = m.family;
  params = map (walk f k) m.params;
  binders = m.binders;
  ret = walk f (k + m.binders) m.ret;
  scrut = walk f k m.scrut;
  branches = map (walk_branch f k) m.branches;
}
