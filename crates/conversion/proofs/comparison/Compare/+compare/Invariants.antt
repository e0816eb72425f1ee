use Rattle.std.proofs.Common.{◌≡◌, ◌+◌, ◌*◌, Result, drop}
use Rattle.pc_terms.specs.Lists.{arms_of}
use Rattle.pc_terms.specs.Syntax.{list_of}
use Rattle.pc_rules.specs.declared.meter.Meter.{Meter}
use Rattle.pc_rules.specs.declared.stop.Halt.{Halt}
use Rattle.pc_rules.specs.Entailment.{test_of}
use Rattle.pc_rules.specs.Follows.{Follows}
use Rattle.pc_rules.specs.DirectedRun.{run_all}
use Rattle.pc_rules.specs.DirectedComparison.{compare, each_equal, branches_equal}
use Rattle.conversion.proofs.comparison.Compare.+compare.Given as goal

abbrev pub decreases-compare : goal.decreases-compare
decreases-compare g l = l.room * 8

abbrev pub decreases-entered : goal.decreases-entered
decreases-entered g l = l.room * 8 + 7

abbrev pub decreases-pair : goal.decreases-pair
decreases-pair g l = l.room * 8 + 6

abbrev pub decreases-spines : goal.decreases-spines
decreases-spines g l = l.room * 8 + 5

abbrev pub decreases-heads : goal.decreases-heads
decreases-heads g l = l.room * 8 + 4

abbrev pub decreases-matches : goal.decreases-matches
decreases-matches g l = l.room * 8 + 3

abbrev pub decreases-fixpoints : goal.decreases-fixpoints
decreases-fixpoints g l = l.room * 8 + 3

abbrev pub decreases-predicates : goal.decreases-predicates
decreases-predicates g l = l.room * 8 + 2

abbrev pub decreases-branches : goal.decreases-branches
decreases-branches g l = l.room * 8 + 2

abbrev pub decreases-compare_bodies : goal.decreases-compare_bodies
decreases-compare_bodies g l = l.room * 8 + 2

abbrev pub decreases-each : goal.decreases-each
decreases-each g l = l.room * 8 + 1

abbrev pub decreases-under : goal.decreases-under
decreases-under g l = l.room * 8 + 1

-- what answers for the rest of two lists answers for the whole
abbrev pub invariant-each-loop-i : goal.invariant-each-loop-i
invariant-each-loop-i g l = record {
  rest : (r : Result (Unit {0}) Halt) (n : Meter)
      → Follows (run_all (each_equal (compare l.env (test_of l.env) l.room) l.ctx (drop l.i l.lefts) (drop l.i l.rights)) l.m.account) r l.m n
      → Follows (run_all (each_equal (compare l.env (test_of l.env) l.room) l.ctx l.lefts l.rights) l.fn.m.account) r l.fn.m n;
  nest : l.m.nest ≡ l.fn.m.nest;
}

abbrev pub invariant-branches-loop-i : goal.invariant-branches-loop-i
invariant-branches-loop-i g l = record {
  rest : (r : Result (Unit {0}) Halt) (n : Meter)
      → Follows (run_all (branches_equal (compare l.env (test_of l.env) l.room) l.ctx l.x.params (drop l.i l.listed) (list_of (arms_of (drop l.i l.xs))) (list_of (arms_of (drop l.i l.ys)))) l.m.account) r l.m n
      → Follows (run_all (branches_equal (compare l.env (test_of l.env) l.room) l.ctx l.x.params l.listed (list_of (arms_of l.xs)) (list_of (arms_of l.ys))) l.fn.m.account) r l.fn.m n;
  nest : l.m.nest ≡ l.fn.m.nest;
}
