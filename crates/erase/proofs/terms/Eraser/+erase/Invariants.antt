use Rattle.std.proofs.Common.{◌≡◌, ◌+◌, ◌*◌, Result, drop, take, length}
use Rattle.trees.specs.Measures.{depth, depth_trees}
use Rattle.box_terms.specs.BoxSyntax.{BoxTerms}
use Rattle.pc_terms.specs.Lists.{arms_of, bodies_of, rargs_of}
use Rattle.box_terms.specs.BoxLists.{rargs_of as box_rargs}
use Rattle.pc_terms.specs.View.{tree_of}
use Rattle.pc_terms.specs.declared.term.Node.TheVariants.{Case, Fix}
use Rattle.pc_rules.specs.declared.meter.Meter.{Meter}
use Rattle.pc_rules.specs.declared.stop.Halt.{Halt}
use Rattle.pc_rules.specs.Entailment.{test_of}
use Rattle.pc_rules.specs.Follows.{Follows}
use Rattle.pc_rules.specs.DirectedTyping.{infer}
use Rattle.erase_rules.specs.DirectedErasure.{kept_branches, kept_bodies}
use Rattle.erase.specs.Arms.{after_arms, after_bodies}
use Rattle.pc_terms.specs.Syntax.{Lambda, LetIn, App}
use Rattle.erase.proofs.terms.Eraser.+erase.Given as goal

-- a term's erasure is above that of its parts

abbrev pub decreases-erased : goal.decreases-erased
decreases-erased g l = depth l.t.now * 8 + 2

abbrev pub decreases-kept : goal.decreases-kept
decreases-kept g l = depth l.t.now * 8 + 1

abbrev pub decreases-lambda : goal.decreases-lambda
decreases-lambda g l = depth (Lambda l.ty.now l.body.now) * 8

abbrev pub decreases-let_in : goal.decreases-let_in
decreases-let_in g l = depth (LetIn l.value.now l.ty.now l.body.now) * 8

abbrev pub decreases-application : goal.decreases-application
decreases-application g l = depth (App l.function.now l.argument.now) * 8

abbrev pub decreases-case : goal.decreases-case
decreases-case g l = depth (tree_of (Case l.x.now)) * 8

abbrev pub decreases-branches : goal.decreases-branches
decreases-branches g l = depth_trees (arms_of l.x.now.branches) * 8 + 4

abbrev pub decreases-branch : goal.decreases-branch
decreases-branch g l = depth l.body.now * 8 + 3

-- what answers for the branches that are left answers for all
abbrev pub invariant-branches-loop-i : goal.invariant-branches-loop-i
invariant-branches-loop-i g l = record {
  rest : (r : Result BoxTerms Halt) (n : Meter)
      → Follows (kept_branches l.env (infer l.env (test_of l.env) l.room) l.ctx l.x.params (drop l.i l.listed) (arms_of (drop l.i l.xs)) l.m.account) r l.m n
      → Follows (kept_branches l.env (infer l.env (test_of l.env) l.room) l.ctx l.x.params l.listed (arms_of l.xs) l.fn.m.account) (after_arms l.out r) l.fn.m n;
  nest : l.m.nest ≡ l.fn.m.nest;
}

abbrev pub decreases-fixpoint : goal.decreases-fixpoint
decreases-fixpoint g l = depth (tree_of (Fix l.defs.now l.i)) * 8

abbrev pub decreases-bodies : goal.decreases-bodies
decreases-bodies g l = depth_trees (bodies_of (length l.defs.now) l.defs.now) * 8 + 4

-- what answers for the bodies that are left answers for all
abbrev pub invariant-bodies-loop-i : goal.invariant-bodies-loop-i
invariant-bodies-loop-i g l = record {
  rest : (r : Result BoxTerms Halt) (n : Meter)
      → Follows (kept_bodies l.env (infer l.env (test_of l.env) l.room) l.ctx (bodies_of (length l.items) (drop l.i l.items)) l.m.account) r l.m n
      → Follows (kept_bodies l.env (infer l.env (test_of l.env) l.room) l.ctx (bodies_of (length l.items) l.items) l.fn.m.account) (after_bodies (length l.items) l.out r) l.fn.m n;
  rargs : box_rargs l.out ≡ rargs_of (take l.i l.items);
  nest : l.m.nest ≡ l.fn.m.nest;
}
