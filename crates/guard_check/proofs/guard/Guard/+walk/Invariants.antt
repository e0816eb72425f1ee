use Rattle.std.proofs.Common.{◌+◌, ◌*◌, max, Result, drop, length}
use Rattle.trees.specs.Tree.{terms_of}
use Rattle.trees.specs.Measures.{depth, depth_trees}
use Rattle.pc_terms.specs.Lists.{arms_of, rargs_of, types_of, bodies_of, depth_defs}
use Rattle.pc_rules.specs.declared.meter.Meter.{Meter}
use Rattle.pc_rules.specs.declared.stop.Halt.{Halt}
use Rattle.pc_rules.specs.Follows.{Follows}
use Rattle.pc_rules.specs.DirectedRun.{run_all}
use Rattle.calculus_rules.specs.Guardedness.{ending}
use Rattle.calculus_rules.specs.Lookups.{family_of}
use Rattle.pc_rules.specs.DirectedGuard.{walk_terms, walk_branches, walk_passed, interleaved, constructors_of}
use Rattle.guard_check.specs.Marks.{values_in, marks_in}
use Rattle.guard_check.proofs.guard.Guard.+walk.Given as goal

abbrev pub decreases-walk : goal.decreases-walk
decreases-walk g l = depth l.t.now * 4 + 1

abbrev pub decreases-walk_applied : goal.decreases-walk_applied
decreases-walk_applied g l = depth l.t.now * 4

abbrev pub decreases-binder : goal.decreases-binder
decreases-binder g l = max (depth l.domain.now) (depth l.body.now) * 4 + 2

abbrev pub decreases-case : goal.decreases-case
decreases-case g l = max (depth_trees (terms_of l.x.now.params)) (max (depth l.x.now.ret) (max (depth l.x.now.scrut) (depth_trees (arms_of l.x.now.branches)))) * 4 + 3

abbrev pub decreases-branches : goal.decreases-branches
decreases-branches g l = depth_trees (arms_of l.x.now.branches) * 4 + 2

abbrev pub decreases-terms : goal.decreases-terms
decreases-terms g l = depth_trees (terms_of l.ts.now) * 4 + 2

abbrev pub decreases-definitions : goal.decreases-definitions
decreases-definitions g l = depth_defs l.defs.now * 4 + 3

abbrev pub decreases-others : goal.decreases-others
decreases-others g l = depth_defs l.defs.now * 4 + 2

abbrev pub decreases-passed : goal.decreases-passed
decreases-passed g l = depth_defs l.defs.now * 4 + 2

abbrev pub decreases-under : goal.decreases-under
decreases-under g l = depth l.t.now * 4

-- what answers for the rest of a list answers for the whole
abbrev pub invariant-branches-loop-place : goal.invariant-branches-loop-place
invariant-branches-loop-place g l = (r : Result (Unit {0}) Halt) (n : Meter)
    → Follows (run_all (walk_branches l.env l.recursive (values_in l.scope) (marks_in l.scope) (ending l.env l.recursive l.x.family (terms_of l.x.params)) l.opened (drop l.place (constructors_of (family_of l.env l.x.family))) (arms_of (drop l.place l.branches))) l.m.account) r l.m n
    → Follows (run_all (walk_branches l.env l.recursive (values_in l.scope) (marks_in l.scope) (ending l.env l.recursive l.x.family (terms_of l.x.params)) l.opened (constructors_of (family_of l.env l.x.family)) (arms_of l.branches)) l.fn.m.account) r l.fn.m n

abbrev pub invariant-others-loop-def : goal.invariant-others-loop-def
invariant-others-loop-def g l = (r : Result (Unit {0}) Halt) (n : Meter)
    → Follows (run_all (interleaved (walk_terms l.env l.recursive (values_in l.scope) (marks_in l.scope) (types_of (drop l.def-index l.defs))) (walk_terms l.env l.recursive (values_in l.scope) (marks_in l.scope) (bodies_of (length l.defs) (drop l.def-index l.defs)))) l.m.account) r l.m n
    → Follows (run_all (interleaved (walk_terms l.env l.recursive (values_in l.scope) (marks_in l.scope) (types_of l.defs)) (walk_terms l.env l.recursive (values_in l.scope) (marks_in l.scope) (bodies_of (length l.defs) l.defs))) l.fn.m.account) r l.fn.m n

abbrev pub invariant-passed-loop-def : goal.invariant-passed-loop-def
invariant-passed-loop-def g l = (r : Result (Unit {0}) Halt) (n : Meter)
    → Follows (run_all (interleaved (walk_terms l.env l.recursive (values_in l.scope) (marks_in l.scope) (types_of (drop l.def-index l.defs))) (walk_passed l.env l.recursive (values_in l.scope) (marks_in l.scope) (rargs_of (drop l.def-index l.defs)) (bodies_of (length l.defs) (drop l.def-index l.defs)))) l.m.account) r l.m n
    → Follows (run_all (interleaved (walk_terms l.env l.recursive (values_in l.scope) (marks_in l.scope) (types_of l.defs)) (walk_passed l.env l.recursive (values_in l.scope) (marks_in l.scope) (rargs_of l.defs) (bodies_of (length l.defs) l.defs))) l.fn.m.account) r l.fn.m n

abbrev pub invariant-terms-loop-t : goal.invariant-terms-loop-t
invariant-terms-loop-t g l = (r : Result (Unit {0}) Halt) (n : Meter)
    → Follows (run_all (walk_terms l.env l.recursive (values_in l.scope) (marks_in l.scope) (terms_of (drop l.t-index l.ts))) l.m.account) r l.m n
    → Follows (run_all (walk_terms l.env l.recursive (values_in l.scope) (marks_in l.scope) (terms_of l.ts)) l.fn.m.account) r l.fn.m n
