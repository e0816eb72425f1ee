use Rattle.std.proofs.Common.{◌≡◌, ◌+◌, ◌*◌, Result}
use Rattle.pc_terms.specs.Syntax.{args}
use Rattle.calculus_rules.specs.Context.{values}
use Rattle.pc_rules.specs.declared.meter.Meter.{Meter}
use Rattle.pc_rules.specs.declared.stop.Halt.{Halt}
use Rattle.pc_rules.specs.Entailment.{test_of}
use Rattle.pc_rules.specs.DirectedRun.{run_all}
use Rattle.pc_rules.specs.DirectedComparison.{compare, each_equal}
use Rattle.reduce_machine.specs.Seen.{seen_term}
use Rattle.lazy_conversion.specs.Lists.{read_list}
use Rattle.lazy_conversion.specs.Stuck.{match_of, match_term, arms_equal}
use Rattle.lazy_conversion.specs.Tracks.{Tracks, EitherBeyond, AnyBeyond}
use Rattle.lazy_conversion.proofs.Growing.{list_from, arms_from}
use Rattle.lazy_conversion.proofs.comparison.LazyCompare.+compare.Given as goal

abbrev pub decreases-compare : goal.decreases-compare
decreases-compare l = l.room * 16

abbrev pub decreases-entered : goal.decreases-entered
decreases-entered l = l.room * 16 + 9

abbrev pub decreases-pair : goal.decreases-pair
decreases-pair l = l.room * 16 + 8

abbrev pub decreases-spines : goal.decreases-spines
decreases-spines l = l.room * 16 + 7

abbrev pub decreases-heads : goal.decreases-heads
decreases-heads l = l.room * 16 + 6

abbrev pub decreases-recursive_heads : goal.decreases-recursive_heads
decreases-recursive_heads l = l.room * 16 + 5

abbrev pub decreases-matches : goal.decreases-matches
decreases-matches l = l.room * 16 + 4

abbrev pub decreases-fixpoints : goal.decreases-fixpoints
decreases-fixpoints l = l.room * 16 + 4

abbrev pub decreases-bodies : goal.decreases-bodies
decreases-bodies l = l.room * 16 + 3

abbrev pub decreases-each : goal.decreases-each
decreases-each l = l.room * 16 + 2

abbrev pub decreases-predicates : goal.decreases-predicates
decreases-predicates l = l.room * 16 + 2

abbrev pub decreases-branches : goal.decreases-branches
decreases-branches l = l.room * 16 + 2

abbrev pub decreases-binders : goal.decreases-binders
decreases-binders l = l.room * 16 + 2

abbrev pub decreases-part : goal.decreases-part
decreases-part l = l.room * 16 + 1

abbrev pub decreases-arguments : goal.decreases-arguments
decreases-arguments l = l.room * 16 + 1

-- what answers for the rest of two lists answers for the whole
abbrev pub invariant-each-loop-i : goal.invariant-each-loop-i
invariant-each-loop-i l = record {
  rest : (r : Result (Unit {0}) Halt) (n : Meter)
      → Tracks (values l.at.ctx.now) (AnyBeyond (read_list l.ts) (read_list l.us)) (list_from (compare l.at.env.now (test_of l.at.env.now) l.room) (read_list l.ts) (read_list l.us) l.i) r l.m n
      → Tracks (values l.at.ctx.now) (AnyBeyond (read_list l.ts) (read_list l.us)) (λ c. run_all (each_equal (compare l.at.env.now (test_of l.at.env.now) l.room) c (read_list l.ts) (read_list l.us))) r l.fn.m n;
  nest : l.m.nest ≡ l.fn.m.nest;
}

abbrev pub invariant-arguments-loop-i : goal.invariant-arguments-loop-i
invariant-arguments-loop-i l = record {
  rest : (r : Result (Unit {0}) Halt) (n : Meter)
      → Tracks (values l.at.ctx.now) (EitherBeyond (seen_term l.x) (seen_term l.y)) (list_from (compare l.at.env.now (test_of l.at.env.now) l.room) (args (seen_term l.x)) (args (seen_term l.y)) l.i) r l.m n
      → Tracks (values l.at.ctx.now) (EitherBeyond (seen_term l.x) (seen_term l.y)) (λ c. run_all (each_equal (compare l.at.env.now (test_of l.at.env.now) l.room) c (args (seen_term l.x)) (args (seen_term l.y)))) r l.fn.m n;
  nest : l.m.nest ≡ l.fn.m.nest;
}

abbrev pub invariant-branches-loop-i : goal.invariant-branches-loop-i
invariant-branches-loop-i l = record {
  rest : (r : Result (Unit {0}) Halt) (n : Meter)
      → Tracks (values l.at.ctx.now) (EitherBeyond (match_term l.x) (match_term l.y))
      (arms_from (compare l.at.env.now (test_of l.at.env.now) l.room) (match_of l.x).params l.ctors (match_of l.x).branches (match_of l.y).branches l.i) r l.m n
      → Tracks (values l.at.ctx.now) (EitherBeyond (match_term l.x) (match_term l.y)) (arms_equal (compare l.at.env.now (test_of l.at.env.now) l.room) l.ctors (match_of l.x) (match_of l.y)) r l.fn.m n;
  nest : l.m.nest ≡ l.fn.m.nest;
}
