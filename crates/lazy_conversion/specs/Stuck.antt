-- Matches that are stuck, and fixpoints, under bindings: the match or the definitions that they are, and how two of them are compared.
use Rattle.std.specs.Prelude.{◌⊎◌, List, map, length}
use Rattle.trees.specs.Tree.{terms_of}
use Rattle.trees.specs.Substitution.{walk}
use Rattle.pc_terms.specs.Lists.{arms_of, types_of, bodies_of, walk_branch, walk_def, AreBeyondDefs}
use Rattle.pc_terms.specs.Syntax.{Term, list_of}
use Rattle.pc_terms.specs.View.{tree_of}
use Rattle.pc_terms.specs.declared.term.Def.{Def}
use Rattle.pc_terms.specs.declared.term.Match.{Match}
use Rattle.pc_terms.specs.declared.term.Node.TheVariants.{Case}
use Rattle.calculus_rules.specs.declared.declaration.Constructor.{Constructor}
use Rattle.calculus_rules.specs.Environment.{Env}
use Rattle.calculus_rules.specs.Context.{Context}
use Rattle.calculus_rules.specs.Lookups.{family_of}
use Rattle.pc_rules.specs.DirectedRun.{Act, run_all}
use Rattle.pc_rules.specs.DirectedComparison.{Comparison, matches_equal, branches_equal, fixpoints_equal}
use Rattle.reduce_machine.specs.Reads.{stands_under}
use Rattle.reduce_machine.specs.Seen.{seen_term}
use Rattle.lazy_conversion.specs.declared.stuck.Stuck.{Stuck}
use Rattle.lazy_conversion.specs.declared.stuck.Recursive.{Recursive}

-- the match, with the value on which it is stuck
abbrev pub match_of : Stuck → Match
match_of s = record {
  family = s.outer.now.family;
  params = map (walk (stands_under s.env.now.items) 0) s.outer.now.params;
  binders = s.outer.now.binders;
  ret = walk (stands_under s.env.now.items) s.outer.now.binders s.outer.now.ret;
  scrut = seen_term s.scrut;
  branches = map (walk_branch (stands_under s.env.now.items) 0) s.outer.now.branches;
}

abbrev pub match_term : Stuck → Term
match_term s = tree_of (Case (match_of s))

-- parameters, predicates, scrutinees, branches
abbrev pub stuck_equal : Env → Comparison → Match → Match → Context → Act
stuck_equal E cmp x y c u =
    matches_equal cmp c x.family (family_of E x.family) (terms_of x.params) x.ret x.scrut (arms_of x.branches) (terms_of y.params) y.ret y.scrut (arms_of y.branches) u

-- the bodies of branches
abbrev pub arms_equal : Comparison → List Constructor → Match → Match → Context → Act
arms_equal cmp Cs x y c = run_all (branches_equal cmp c x.params Cs (list_of (arms_of x.branches)) (list_of (arms_of y.branches)))

-- the definitions of a fixpoint
abbrev pub defs_of : Recursive → List Def
defs_of f = map (walk_def (stands_under f.env.now.items) 0 (length f.defs.now)) f.defs.now

abbrev pub type_list : List Def → List Term
type_list ds = list_of (types_of ds)

abbrev pub body_list : List Def → List Term
body_list ds = list_of (bodies_of (length ds) ds)

-- types, then bodies
abbrev pub recursive_equal : Comparison → List Def → List Def → Context → Act
recursive_equal cmp ds es c = fixpoints_equal cmp c (types_of ds) (bodies_of (length ds) ds) (types_of es) (bodies_of (length es) es)

abbrev pub DefsBeyond : List Def → List Def → Type 0
DefsBeyond ds es = AreBeyondDefs ds ⊎ AreBeyondDefs es
