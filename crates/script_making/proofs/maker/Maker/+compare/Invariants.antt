use Rattle.std.proofs.Common.{◌≡◌, ◌+◌, ◌*◌, Result, drop}
use Rattle.pc_terms.specs.Lists.{arms_of}
use Rattle.pc_terms.specs.Syntax.{list_of}
use Rattle.pc_rules.specs.declared.stop.Halt.{Halt}
use Rattle.cert_rules.specs.Writing.{write_all}
use Rattle.cert_rules.specs.MakingTyping.{make_each, make_branches_equal}
use Rattle.script_making.specs.declared.draft.Draft.{Draft}
use Rattle.script_making.specs.Makes.{Makes}
use Rattle.script_making.specs.Comparing.{compare_making}
use Rattle.script_making.proofs.maker.Maker.+compare.Given as goal

abbrev pub decreases-compare : goal.decreases-compare
decreases-compare g l = l.self.now.room * 8

abbrev pub decreases-entered : goal.decreases-entered
decreases-entered g l = l.self.now.room * 8 + 7

abbrev pub decreases-pair : goal.decreases-pair
decreases-pair g l = l.self.now.room * 8 + 6

abbrev pub decreases-bound : goal.decreases-bound
decreases-bound g l = l.self.now.room * 8 + 1

abbrev pub decreases-spines : goal.decreases-spines
decreases-spines g l = l.self.now.room * 8 + 5

abbrev pub decreases-heads : goal.decreases-heads
decreases-heads g l = l.self.now.room * 8 + 4

abbrev pub decreases-matches : goal.decreases-matches
decreases-matches g l = l.self.now.room * 8 + 3

abbrev pub decreases-fixpoints : goal.decreases-fixpoints
decreases-fixpoints g l = l.self.now.room * 8 + 3

abbrev pub decreases-predicates : goal.decreases-predicates
decreases-predicates g l = l.self.now.room * 8 + 2

abbrev pub decreases-branches : goal.decreases-branches
decreases-branches g l = l.self.now.room * 8 + 2

abbrev pub decreases-compare_bodies : goal.decreases-compare_bodies
decreases-compare_bodies g l = l.self.now.room * 8 + 2

abbrev pub decreases-each : goal.decreases-each
decreases-each g l = l.self.now.room * 8 + 1

abbrev pub decreases-under : goal.decreases-under
decreases-under g l = l.self.now.room * 8 + 1

-- what answers for the rest of two lists answers for the whole
abbrev pub invariant-each-loop-i : goal.invariant-each-loop-i
invariant-each-loop-i g l = record {
  rest : (r : Result (Unit {0}) Halt) (n : Draft)
      → Makes (write_all (make_each (compare_making l.self.env.now l.self.room) l.ctx (drop l.i l.lefts) (drop l.i l.rights)) l.draft.meter.account) r l.draft n
      → Makes (write_all (make_each (compare_making l.self.env.now l.self.room) l.ctx l.lefts l.rights) l.fn.draft.meter.account) r l.fn.draft n;
  nest : l.draft.meter.nest ≡ l.fn.draft.meter.nest;
}

abbrev pub invariant-branches-loop-i : goal.invariant-branches-loop-i
invariant-branches-loop-i g l = record {
  rest : (r : Result (Unit {0}) Halt) (n : Draft)
      → Makes (write_all (make_branches_equal (compare_making l.self.env.now l.self.room) l.ctx l.x.params (drop l.i l.listed) (list_of (arms_of (drop l.i l.xs))) (list_of (arms_of (drop l.i l.ys)))) l.draft.meter.account) r l.draft n
      → Makes (write_all (make_branches_equal (compare_making l.self.env.now l.self.room) l.ctx l.x.params l.listed (list_of (arms_of l.xs)) (list_of (arms_of l.ys))) l.fn.draft.meter.account) r l.fn.draft n;
  nest : l.draft.meter.nest ≡ l.fn.draft.meter.nest;
}
