use Rattle.std.proofs.Common.{rules, arith, ◌≡◌, ◌∙◌, sym, ap, ◌<◌, ◌≤◌, ◌-◌, ◌+◌, true, false, suc, min, length, List, ◌∷◌}
use Rattle.pc_terms.specs.Syntax.{Term, list_of}
use Rattle.calculus_rules.specs.declared.entry.Entry.TheVariants.{Assumed}
use Rattle.calculus_rules.specs.Context.{extend}
use Rattle.pc_rules.specs.DirectedComparison.{lifted_types, each_equal}
use Rattle.pc_rules.specs.DirectedRun.{run_all}
use Rattle.calculus_rules.specs.Environment.{with_parameters}
use Rattle.pc_rules.specs.Entailment.{test_of}
use Rattle.calculus_rules.specs.Instances.{predicate_entries, branch_entries}
use Rattle.pc_terms.specs.Lists.{types_of, bodies_of}
use Rattle.calculus_rules.specs.Same.{same}
use Rattle.pc_rules.specs.Stops.{stop_of}
use Rattle.pc_rules.proofs.FairReduction.{comparing_fair}
use Rattle.pc_rules.proofs.Following.{follows_bind, follows_err, follows_halted, follows_no_memory, follows_still}
use Rattle.pc_rules.proofs.Leaving.{leaving}
use Rattle.std.proofs.lemmas.Result.{err_from_is_err_and}
use Rattle.conversion.specs.Modes.{is_equal}
use Rattle.conversion.proofs.Defaults.{sort_and_other, product_and_other, lambda_and_other, other_first}
use Rattle.conversion.proofs.Comparing.{at_room, compare_spent, compare_nested, compare_entered, entering_fault, entering_goes, each_next, each_stops, each_done, branches_next, branches_stops, branches_done, matched, spines_go, spines_clash}
use Rattle.conversion.proofs.Parts.{whnfs_comparable, left_sort, right_sort, domains_comparable, codomains_comparable, binders_comparable, lambda_bodies_comparable, heads_comparable, args_comparable, items_comparable, parameters_comparable, predicates_comparable, scrutinees_comparable, branches_comparable, types_comparable, bodies_comparable, extended_comparable, same_comparable}
use Rattle.conversion.proofs.comparison.Compare.+compare.Goals as goal
use Rattle.conversion.proofs.comparison.Compare.+compare.Goals.{pair-in_default-via-in-Sort+in_default, pair-in_default-via-in-Prod+in_default, pair-in_default-via-in-Lambda+in_default, pair-in_default-via-in_default}
use Rattle.pc_rules.proofs.SameTrees.{same_yes, same_no}

-- the start of a comparison

pub compare-returns-then-not-tick : goal.compare-returns-then-not-tick
compare-returns-then-not-tick g t c =
    let z : c.args.m.now.account.left ≡ 0 = search rules in
    record { follows = compare_spent _ _ _ _ _ _ c.args.room _ _ z c.tick.ensures.account c.tick.ensures.nest }

pub compare-returns-then-not-enter : goal.compare-returns-then-not-enter
compare-returns-then-not-enter g t c =
    let h : 0 < c.args.m.now.account.left = search rules in
    let z : c.args.room ≡ 0 = search rules in
    let k : c.enter.new.self.nest ≡ c.tick.new.self.nest = search rules in
    record { follows = compare_nested _ _ _ _ _ _ c.args.room c.args.m.now c.tick.new.self c.enter.new.self z h c.tick.ensures.account c.tick.ensures.nest c.enter.ensures.account k }

pub compare-returns : goal.compare-returns
compare-returns g t c =
    let h : 0 < c.args.m.now.account.left = search rules in
    let k : c.enter.new.self.nest ≡ c.tick.new.self.nest + 1 = search rules in
    let z : c.args.room ≡ suc (c.args.room - 1) = search rules in
    record {
      follows = compare_entered _ _ _ _ _ _ c.args.room (c.args.room - 1) _ c.args.m.now c.tick.new.self c.enter.new.self c.entered-answer.new.m c.leave.new.self z h c.tick.ensures.account c.tick.ensures.nest c.enter.ensures.account k c.entered-answer.ensures.follows
          c.leave.ensures.account c.leave.ensures.nest;
    }

-- equal trees, or both weak-head normal forms

pub entered-returns-then-same : goal.entered-returns-then-same
entered-returns-then-same g t c =
    let e : same c.args.a.now c.args.b.now ≡ true = same_yes _ _ c.same.result c.same.ensures.is c.if-same.true in
    record { follows = rw e (search rules) }

pub entered-returns-in_err-x : goal.entered-returns-in_err-x
entered-returns-in_err-x g t c =
    let e : same c.args.a.now c.args.b.now ≡ false = same_no _ _ c.same.result c.same.ensures.is c.if-same.false in
    record { follows = rw e (follows_halted _ _ _ _ _ _ c.from_residual.ensures.1 c.in_err-x.ensures.follows (search leaving)) }

pub entered-returns-in_err-y : goal.entered-returns-in_err-y
entered-returns-in_err-y g t c =
    let e : same c.args.a.now c.args.b.now ≡ false = same_no _ _ c.same.result c.same.ensures.is c.if-same.false in
    let f = c.in_ok-x.ensures.follows in
    record { follows = rw e (follows_bind _ _ _ _ _ _ _ f (follows_halted _ _ _ _ _ _ c.from_residual-in_err-y.ensures.1 c.in_err-y.ensures.follows (search leaving))) }

pub entered-pair-requires : goal.entered-pair-requires
entered-pair-requires g t c =
    let k = whnfs_comparable _ _ _ _ _ _ c.requires.comparable c.in_ok-x.ensures.reached c.in_ok-y.ensures.reached in
    search (rules, k)

pub entered-returns : goal.entered-returns
entered-returns g t c =
    let e : same c.args.a.now c.args.b.now ≡ false = same_no _ _ c.same.result c.same.ensures.is c.if-same.false in
    let f = c.in_ok-x.ensures.follows in
    let k = c.in_ok-y.ensures.follows in
    record { follows = rw e (follows_bind _ _ _ _ _ _ _ f (follows_bind _ _ _ _ _ _ _ k c.pair.ensures.follows)) }

-- sorts, products and lambdas

pub pair-compare_sorts-requires-clause-left : goal.pair-compare_sorts-requires-clause-left
pair-compare_sorts-requires-clause-left g t c =
    let ea = rw c.in-Sort-Sort.is-0 at c.view.ensures.is in
    let eb = rw c.in-Sort-Sort.is-1 at c.view-2.ensures.is in
    left_sort _ _ _ _ (rw (← ea, ← eb) at c.requires.comparable)

pub pair-compare_sorts-requires-clause-right : goal.pair-compare_sorts-requires-clause-right
pair-compare_sorts-requires-clause-right g t c =
    let ea = rw c.in-Sort-Sort.is-0 at c.view.ensures.is in
    let eb = rw c.in-Sort-Sort.is-1 at c.view-2.ensures.is in
    right_sort _ _ _ _ (rw (← ea, ← eb) at c.requires.comparable)

pub pair-returns-in-Sort-Sort : goal.pair-returns-in-Sort-Sort
pair-returns-in-Sort-Sort g t c =
    let ea = rw c.in-Sort-Sort.is-0 at c.view.ensures.is in
    let eb = rw c.in-Sort-Sort.is-1 at c.view-2.ensures.is in
    record { follows = rw (← ea, ← eb) (follows_still _ _ _ (c.compare_sorts.ensures.answers c.args.m.now.account) (search leaving)) }

pub pair-compare-requires : goal.pair-compare-requires
pair-compare-requires g t c =
    let ea = rw c.in-Prod-Prod.is-0 at c.view.ensures.is in
    let eb = rw c.in-Prod-Prod.is-1 at c.view-2.ensures.is in
    let k = domains_comparable _ _ _ _ _ _ (rw (← ea, ← eb) at c.requires.comparable) in
    search (rules, k)

pub pair-compare-requires-in-Prod-Prod : goal.pair-compare-requires-in-Prod-Prod
pair-compare-requires-in-Prod-Prod g t c =
    let ea = rw c.in-Prod-Prod.is-0 at c.view.ensures.is in
    let eb = rw c.in-Prod-Prod.is-1 at c.view-2.ensures.is in
    let k = codomains_comparable _ _ _ _ _ _ _ (c.in_ok-under-in-Prod-Prod.ensures.longer ∙ ap (λ (x : Term). Assumed x ∷ c.args.ctx.now) c.in_ok-share-in-Prod-Prod.ensures.ok) (rw (← ea, ← eb) at c.requires.comparable) in
    search (rules, k)

pub pair-returns-in_err-compare-in-Prod-Prod : goal.pair-returns-in_err-compare-in-Prod-Prod
pair-returns-in_err-compare-in-Prod-Prod g t c =
    let ea = rw c.in-Prod-Prod.is-0 at c.view.ensures.is in
    let eb = rw c.in-Prod-Prod.is-1 at c.view-2.ensures.is in
    record { follows = rw (← ea, ← eb) (follows_halted _ _ _ _ _ _ c.from_residual.ensures.1 c.in_err-compare-in-Prod-Prod.ensures.follows (search leaving)) }

pub pair-returns-in_ok-under-in-Prod-Prod : goal.pair-returns-in_ok-under-in-Prod-Prod
pair-returns-in_ok-under-in-Prod-Prod g t c =
    let ea = rw c.in-Prod-Prod.is-0 at c.view.ensures.is in
    let eb = rw c.in-Prod-Prod.is-1 at c.view-2.ensures.is in
    let f = c.in_ok-compare-in-Prod-Prod.ensures.follows in
    let es = c.in_ok-share-in-Prod-Prod.ensures.ok in
    let eu = c.in_ok-under-in-Prod-Prod.ensures.longer in
    record { follows = rw (← ea, ← eb) (follows_bind _ _ _ _ _ _ _ f (rw (eu, es) at c.compare-in-Prod-Prod.ensures.follows)) }

pub pair-compare-requires-in-Lambda-Lambda : goal.pair-compare-requires-in-Lambda-Lambda
pair-compare-requires-in-Lambda-Lambda g t c =
    let ea = rw c.in-Lambda-Lambda.is-0 at c.view.ensures.is in
    let eb = rw c.in-Lambda-Lambda.is-1 at c.view-2.ensures.is in
    let k = binders_comparable _ _ _ _ _ _ (rw (← ea, ← eb) at c.requires.comparable) in
    search (rules, k)

pub pair-compare-requires-in-Lambda-Lambda-2 : goal.pair-compare-requires-in-Lambda-Lambda-2
pair-compare-requires-in-Lambda-Lambda-2 g t c =
    let ea = rw c.in-Lambda-Lambda.is-0 at c.view.ensures.is in
    let eb = rw c.in-Lambda-Lambda.is-1 at c.view-2.ensures.is in
    let k = lambda_bodies_comparable _ _ _ _ _ _ _ (c.in_ok-under-in-Lambda-Lambda.ensures.longer ∙ ap (λ (x : Term). Assumed x ∷ c.args.ctx.now) c.in_ok-share-in-Lambda-Lambda.ensures.ok) (rw (← ea, ← eb) at c.requires.comparable) in
    search (rules, k)

pub pair-returns-in_err-compare-in-Lambda-Lambda : goal.pair-returns-in_err-compare-in-Lambda-Lambda
pair-returns-in_err-compare-in-Lambda-Lambda g t c =
    let ea = rw c.in-Lambda-Lambda.is-0 at c.view.ensures.is in
    let eb = rw c.in-Lambda-Lambda.is-1 at c.view-2.ensures.is in
    record { follows = rw (← ea, ← eb) (follows_halted _ _ _ _ _ _ c.from_residual-in_err-compare-in-Lambda-Lambda.ensures.1 c.in_err-compare-in-Lambda-Lambda.ensures.follows (search leaving)) }

pub pair-returns-in_ok-under-in-Lambda-Lambda : goal.pair-returns-in_ok-under-in-Lambda-Lambda
pair-returns-in_ok-under-in-Lambda-Lambda g t c =
    let ea = rw c.in-Lambda-Lambda.is-0 at c.view.ensures.is in
    let eb = rw c.in-Lambda-Lambda.is-1 at c.view-2.ensures.is in
    let f = c.in_ok-compare-in-Lambda-Lambda.ensures.follows in
    let es = c.in_ok-share-in-Lambda-Lambda.ensures.ok in
    let eu = c.in_ok-under-in-Lambda-Lambda.ensures.longer in
    record { follows = rw (← ea, ← eb) (follows_bind _ _ _ _ _ _ _ f (rw (eu, es) at c.compare-in-Lambda-Lambda-2.ensures.follows)) }

pub pair-returns-in_err-share-in-Prod-Prod : goal.pair-returns-in_err-share-in-Prod-Prod
pair-returns-in_err-share-in-Prod-Prod g t c =
    let ea = rw c.in-Prod-Prod.is-0 at c.view.ensures.is in
    let eb = rw c.in-Prod-Prod.is-1 at c.view-2.ensures.is in
    let f = c.in_ok-compare-in-Prod-Prod.ensures.follows in
    record { follows = rw (← ea, ← eb) (follows_bind _ _ _ _ _ _ _ f (follows_no_memory _ _ _ _ (ap stop_of c.in_err-share-in-Prod-Prod.ensures.only_memory) c.from_residual-in_err-share-in-Prod-Prod.ensures.1 (search leaving))) }

pub pair-returns-in_err-under-in-Prod-Prod : goal.pair-returns-in_err-under-in-Prod-Prod
pair-returns-in_err-under-in-Prod-Prod g t c =
    let ea = rw c.in-Prod-Prod.is-0 at c.view.ensures.is in
    let eb = rw c.in-Prod-Prod.is-1 at c.view-2.ensures.is in
    let f = c.in_ok-compare-in-Prod-Prod.ensures.follows in
    record { follows = rw (← ea, ← eb) (follows_bind _ _ _ _ _ _ _ f (follows_no_memory _ _ _ _ c.in_err-under-in-Prod-Prod.ensures.only_memory c.from_residual-in_err-under-in-Prod-Prod.ensures.1 (search leaving))) }

pub pair-returns-in_err-share-in-Lambda-Lambda : goal.pair-returns-in_err-share-in-Lambda-Lambda
pair-returns-in_err-share-in-Lambda-Lambda g t c =
    let ea = rw c.in-Lambda-Lambda.is-0 at c.view.ensures.is in
    let eb = rw c.in-Lambda-Lambda.is-1 at c.view-2.ensures.is in
    let f = c.in_ok-compare-in-Lambda-Lambda.ensures.follows in
    record { follows = rw (← ea, ← eb) (follows_bind _ _ _ _ _ _ _ f (follows_no_memory _ _ _ _ (ap stop_of c.in_err-share-in-Lambda-Lambda.ensures.only_memory) c.from_residual-in_err-share-in-Lambda-Lambda.ensures.1 (search leaving))) }

pub pair-returns-in_err-under-in-Lambda-Lambda : goal.pair-returns-in_err-under-in-Lambda-Lambda
pair-returns-in_err-under-in-Lambda-Lambda g t c =
    let ea = rw c.in-Lambda-Lambda.is-0 at c.view.ensures.is in
    let eb = rw c.in-Lambda-Lambda.is-1 at c.view-2.ensures.is in
    let f = c.in_ok-compare-in-Lambda-Lambda.ensures.follows in
    record { follows = rw (← ea, ← eb) (follows_bind _ _ _ _ _ _ _ f (follows_no_memory _ _ _ _ c.in_err-under-in-Lambda-Lambda.ensures.only_memory c.from_residual-in_err-under-in-Lambda-Lambda.ensures.1 (search leaving))) }

pub pair-returns-in_default : goal.pair-returns-in_default
pair-returns-in_default g t c =
    elim c.in_default.branch [
      | pair-in_default-via-in-Sort+in_default w ↦
          record {
            follows = rw (sort_and_other c.args.env.now (test_of c.args.env.now) (at_room c.args.env.now c.args.room) c.args.ctx.now (is_equal c.args.mode) c.args.m.now.account _ _ _ _ c.view.ensures.is c.view-2.ensures.is w.in_default.field-0-0 w.in_default.is-0
                w.in_default.not-Sort-1) c.spines.ensures.follows;
          }
      | pair-in_default-via-in-Prod+in_default w ↦
          record {
            follows = rw (product_and_other c.args.env.now (test_of c.args.env.now) (at_room c.args.env.now c.args.room) c.args.ctx.now (is_equal c.args.mode) c.args.m.now.account _ _ _ _ c.view.ensures.is c.view-2.ensures.is w.in_default.field-0-0 w.in_default.field-1-0
                w.in_default.is-0 w.in_default.not-Prod-1) c.spines.ensures.follows;
          }
      | pair-in_default-via-in-Lambda+in_default w ↦
          record {
            follows = rw (lambda_and_other c.args.env.now (test_of c.args.env.now) (at_room c.args.env.now c.args.room) c.args.ctx.now (is_equal c.args.mode) c.args.m.now.account _ _ _ _ c.view.ensures.is c.view-2.ensures.is w.in_default.field-0-0 w.in_default.field-1-0
                w.in_default.is-0 w.in_default.not-Lambda-1) c.spines.ensures.follows;
          }
      | pair-in_default-via-in_default w ↦
          record {
            follows = rw (other_first c.args.env.now (test_of c.args.env.now) (at_room c.args.env.now c.args.room) c.args.ctx.now (is_equal c.args.mode) c.args.m.now.account _ _ _ _ c.view.ensures.is c.view-2.ensures.is w.in_default.not-Sort-0 w.in_default.not-Prod-0
                w.in_default.not-Lambda-0) c.spines.ensures.follows;
          }
    ]

-- spines

pub spines-heads-requires : goal.spines-heads-requires
spines-heads-requires g t c =
    let k = heads_comparable _ _ _ _ _ _ c.in_ok-left.ensures.head c.in_ok-right.ensures.head c.requires.comparable in
    search (rules, k)

pub spines-each-requires : goal.spines-each-requires
spines-each-requires g t c =
    let k = args_comparable _ _ _ _ _ _ c.in_ok-left.ensures.args c.in_ok-right.ensures.args c.requires.comparable in
    search (rules, k)

pub spines-returns-then-not-fit : goal.spines-returns-then-not-fit
spines-returns-then-not-fit g t c =
    let q = rw (c.in_ok-left.ensures.head, c.in_ok-right.ensures.head, c.in_ok-left.ensures.args, c.in_ok-right.ensures.args) at c.fit.ensures.is in
    record { follows = rw c.in_ok-clash.ensures.ok (spines_clash c.args.env.now (at_room c.args.env.now c.args.room) c.args.ctx.now c.args.a.now c.args.b.now c.args.m.now (sym q ∙ c.if-not-fit.true)) }

pub spines-returns-in_err-left : goal.spines-returns-in_err-left
spines-returns-in_err-left g t c = record { follows = follows_no_memory _ _ _ _ (ap stop_of c.in_err-left.ensures.only_memory) c.from_residual.ensures.1 (search leaving) }

pub spines-returns-in_err-right : goal.spines-returns-in_err-right
spines-returns-in_err-right g t c = record { follows = follows_no_memory _ _ _ _ (ap stop_of c.in_err-right.ensures.only_memory) c.from_residual-in_err-right.ensures.1 (search leaving) }

pub spines-returns-in_err-heads : goal.spines-returns-in_err-heads
spines-returns-in_err-heads g t c =
    let p = err_from_is_err_and c.from_residual-in_err-heads.result c.from_residual-in_err-heads.ensures.1 in
    let q = rw (c.in_ok-left.ensures.head, c.in_ok-right.ensures.head, c.in_ok-left.ensures.args, c.in_ok-right.ensures.args) at c.fit.ensures.is in
    let f = rw (c.in_ok-left.ensures.head, c.in_ok-right.ensures.head) at c.in_err-heads.ensures.follows in
    record { follows = rw (p.1, p.2) (spines_go c.args.env.now (at_room c.args.env.now c.args.room) c.args.ctx.now c.args.a.now c.args.b.now _ c.args.m.now _ (sym q ∙ c.if-not-fit.false) (follows_err _ _ _ _ _ f (search leaving))) }

pub spines-returns : goal.spines-returns
spines-returns g t c =
    let q = rw (c.in_ok-left.ensures.head, c.in_ok-right.ensures.head, c.in_ok-left.ensures.args, c.in_ok-right.ensures.args) at c.fit.ensures.is in
    let f = rw (c.in_ok-left.ensures.head, c.in_ok-right.ensures.head) at c.in_ok-heads.ensures.follows in
    let e = rw (c.in_ok-left.ensures.args, c.in_ok-right.ensures.args) at c.each.ensures.follows in
    record { follows = spines_go c.args.env.now (at_room c.args.env.now c.args.room) c.args.ctx.now c.args.a.now c.args.b.now _ c.args.m.now _ (sym q ∙ c.if-not-fit.false) (follows_bind _ _ _ _ _ _ _ f e) }

-- two lists

pub each-compare-requires : goal.each-compare-requires
each-compare-requires g t c =
    let l : c.loop-i.i < length c.args.ts.now = grind arith in
    let k : c.loop-i.i < length c.args.us.now = grind arith in
    let h = items_comparable _ _ c.args.ts.now c.args.us.now c.loop-i.i c.index-lefts-i.result c.index-rights-i.result l k (cc) (cc) c.requires.comparable in
    search (rules, h)

pub each-loop-i-preserved : goal.each-loop-i-preserved
each-loop-i-preserved g t c =
    let l : c.loop-i.i < length c.as_slice-lefts.result.now = grind arith in
    let k : c.loop-i.i < length c.as_slice-rights.result.now = grind arith in
    let f = c.in_ok-compare.ensures.follows in
    record {
      rest = λ r n x. c.loop-i.invariant.rest r n (each_next (at_room c.args.env.now c.args.room) c.args.ctx.now c.as_slice-lefts.result.now c.as_slice-rights.result.now c.loop-i.i c.index-lefts-i.result c.index-rights-i.result r c.loop-i.m c.compare.new.m n l k
          c.index-lefts-i.is c.index-rights-i.is f x);
      nest = c.in_ok-compare.ensures.follows.after.nest ∙ c.loop-i.invariant.nest;
    }

pub each-returns-in_err-compare : goal.each-returns-in_err-compare
each-returns-in_err-compare g t c =
    let p = err_from_is_err_and c.from_residual.result c.from_residual.ensures.1 in
    let l : c.loop-i.i < length c.as_slice-lefts.result.now = grind arith in
    let k : c.loop-i.i < length c.as_slice-rights.result.now = grind arith in
    let f = c.in_err-compare.ensures.follows in
    let whole = c.loop-i.invariant.rest _ _ (each_stops (at_room c.args.env.now c.args.room) c.args.ctx.now c.as_slice-lefts.result.now c.as_slice-rights.result.now (comparing_fair _ _ _) c.loop-i.i c.index-lefts-i.result c.index-rights-i.result _ c.loop-i.m c.compare.new.m l k c.index-lefts-i.is c.index-rights-i.is f) in
    record { follows = rw (p.1, p.2) (rw (c.as_slice-lefts.ensures.is, c.as_slice-rights.ensures.is) at whole) }

pub each-returns : goal.each-returns
each-returns g t c =
    let h : min (length c.as_slice-lefts.result.now) (length c.as_slice-rights.result.now) ≤ c.loop-i.i = search rules in
    let whole = c.loop-i.invariant.rest _ _ (each_done (at_room c.args.env.now c.args.room) c.args.ctx.now c.as_slice-lefts.result.now c.as_slice-rights.result.now c.loop-i.i c.loop-i.m h) in
    record { follows = rw (c.as_slice-lefts.ensures.is, c.as_slice-rights.ensures.is) at whole }

-- under a telescope

pub under-compare-requires : goal.under-compare-requires
under-compare-requires g t c =
    let k = extended_comparable _ _ _ c.args.entries.now _ _ c.in_ok-inner.ensures.longer c.requires.comparable in
    search (rules, k)

pub under-returns-in_err-inner : goal.under-returns-in_err-inner
under-returns-in_err-inner g t c = record { follows = follows_no_memory _ _ _ _ c.in_err-inner.ensures.only_memory c.from_residual.ensures.1 (search leaving) }

pub under-returns : goal.under-returns
under-returns g t c =
    let f = rw c.in_ok-inner.ensures.longer at c.compare.ensures.follows in
    record { follows = entering_goes c.args.ctx.now c.args.entries.now (λ d. at_room c.args.env.now c.args.room d true c.args.a.now c.args.b.now) _ c.args.m.now _ f }

-- matches

pub matches-each-requires : goal.matches-each-requires
matches-each-requires g t c =
    let k = parameters_comparable _ _ _ _ _ _ _ _ _ _ _ _ _ _ c.requires.comparable in
    search (rules, k)

pub matches-compare-requires : goal.matches-compare-requires
matches-compare-requires g t c =
    let e = c.in-Some.ensures.kept in
    let n : c.predicates.new.m.nest ≡ c.args.m.now.nest = (c.in_ok-predicates.ensures.follows e.0).after.nest ∙ c.in_ok-each.ensures.follows.after.nest in
    let k = scrutinees_comparable _ _ _ _ _ _ _ _ _ _ _ _ _ _ c.requires.comparable in
    search (rules, k)

pub matches-branches-requires : goal.matches-branches-requires
matches-branches-requires g t c =
    let e = c.in-Some.ensures.kept in
    let n : c.predicates.new.m.nest ≡ c.args.m.now.nest = (c.in_ok-predicates.ensures.follows e.0).after.nest ∙ c.in_ok-each.ensures.follows.after.nest in
    let k = c.requires.comparable in
    search (rules, k)

pub matches-returns : goal.matches-returns
matches-returns g t c =
    let e = c.in-Some.ensures.kept in
    let f1 = c.in_ok-each.ensures.follows in
    let f2 = c.in_ok-predicates.ensures.follows e.0 in
    let f3 = c.in_ok-compare.ensures.follows in
    record { follows = matched c.args.env.now c.args.room c.args.ctx.now c.args.x.now c.args.y.now (with_parameters e.0 c.in-Some.family.now) _ c.args.m.now _ e.1 (follows_bind _ _ _ _ _ _ _ f1 (follows_bind _ _ _ _ _ _ _ f2 (follows_bind _ _ _ _ _ _ _ f3 c.branches.ensures.follows))) }

pub predicates-under-requires : goal.predicates-under-requires
predicates-under-requires g t c =
    let k = predicates_comparable _ _ _ _ _ _ _ _ _ _ _ _ _ _ c.requires.comparable in
    search (rules, k)

pub predicates-returns-in_err-entries : goal.predicates-returns-in_err-entries
predicates-returns-in_err-entries g t c =
    let p = err_from_is_err_and c.from_residual.result c.from_residual.ensures.1 in
    record {
      follows = λ Ps. rw (p.1, p.2) (entering_fault c.args.ctx.now (predicate_entries c.args.x.now.family (with_parameters Ps c.args.family.now) c.args.x.now.params) (λ d. at_room c.args.env.now c.args.room d true c.args.x.now.ret c.args.y.now.ret) _ c.args.m.now
          (λ e. c.in_err-entries.ensures.too_deep e Ps) (search leaving));
    }

pub predicates-returns : goal.predicates-returns
predicates-returns g t c = record { follows = λ Ps. rw (c.in_ok-entries.ensures.ok Ps) at c.under.ensures.follows }

-- branches

pub branches-under-requires : goal.branches-under-requires
branches-under-requires g t c =
    let k : c.loop-i.i < length c.as_slice-xs.result.now = grind arith in
    let l : c.loop-i.i < length c.as_slice-ys.result.now = grind arith in
    let h = branches_comparable _ _ _ _ _ _ _ _ _ _ _ _ _ _ c.requires.comparable c.loop-i.i c.index-xs-i.result c.index-ys-i.result (grind arith) (grind arith) (cc) (cc) in
    search (rules, h)

pub branches-returns-in_err-entries : goal.branches-returns-in_err-entries
branches-returns-in_err-entries g t c =
    let p = err_from_is_err_and c.from_residual.result c.from_residual.ensures.1 in
    let h : c.loop-i.i < length c.as_slice-listed.result.now = grind arith in
    let k : c.loop-i.i < length c.as_slice-xs.result.now = grind arith in
    let l : c.loop-i.i < length c.as_slice-ys.result.now = grind arith in
    let f = entering_fault c.args.ctx.now (branch_entries c.index-listed-i.result c.args.x.now.params) (λ d. at_room c.args.env.now c.args.room d true c.index-xs-i.result.body c.index-ys-i.result.body) _ c.loop-i.m c.in_err-entries.ensures.too_deep (search leaving) in
    let whole = c.loop-i.invariant.rest _ _ (branches_stops (at_room c.args.env.now c.args.room) c.args.ctx.now c.args.x.now.params c.as_slice-listed.result.now c.as_slice-xs.result.now c.as_slice-ys.result.now (comparing_fair _ _ _) c.loop-i.i c.index-listed-i.result c.index-xs-i.result
    c.index-ys-i.result _ c.loop-i.m c.loop-i.m h k l c.index-listed-i.is c.index-xs-i.is c.index-ys-i.is f) in
    record { follows = rw (p.1, p.2) (rw (c.as_slice-listed.ensures.is, c.as_slice-xs.ensures.is, c.as_slice-ys.ensures.is) at whole) }

pub branches-loop-i-preserved : goal.branches-loop-i-preserved
branches-loop-i-preserved g t c =
    let h : c.loop-i.i < length c.as_slice-listed.result.now = grind arith in
    let k : c.loop-i.i < length c.as_slice-xs.result.now = grind arith in
    let l : c.loop-i.i < length c.as_slice-ys.result.now = grind arith in
    let f = rw (c.in_ok-entries.ensures.ok, ← c.index-xs-i.is, ← c.index-ys-i.is) at c.in_ok-under.ensures.follows in
    record {
      rest = λ r n x. c.loop-i.invariant.rest r n (branches_next (at_room c.args.env.now c.args.room) c.args.ctx.now c.args.x.now.params c.as_slice-listed.result.now c.as_slice-xs.result.now c.as_slice-ys.result.now c.loop-i.i c.index-listed-i.result c.index-xs-i.result
          c.index-ys-i.result r c.loop-i.m c.under.new.m n h k l c.index-listed-i.is c.index-xs-i.is c.index-ys-i.is f x);
      nest = c.in_ok-under.ensures.follows.after.nest ∙ c.loop-i.invariant.nest;
    }

pub branches-returns-in_err-under : goal.branches-returns-in_err-under
branches-returns-in_err-under g t c =
    let p = err_from_is_err_and c.from_residual-in_err-under.result c.from_residual-in_err-under.ensures.1 in
    let h : c.loop-i.i < length c.as_slice-listed.result.now = grind arith in
    let k : c.loop-i.i < length c.as_slice-xs.result.now = grind arith in
    let l : c.loop-i.i < length c.as_slice-ys.result.now = grind arith in
    let f = rw (c.in_ok-entries.ensures.ok, ← c.index-xs-i.is, ← c.index-ys-i.is) at c.in_err-under.ensures.follows in
    let whole = c.loop-i.invariant.rest _ _ (branches_stops (at_room c.args.env.now c.args.room) c.args.ctx.now c.args.x.now.params c.as_slice-listed.result.now c.as_slice-xs.result.now c.as_slice-ys.result.now (comparing_fair _ _ _) c.loop-i.i c.index-listed-i.result c.index-xs-i.result
    c.index-ys-i.result _ c.loop-i.m c.under.new.m h k l c.index-listed-i.is c.index-xs-i.is c.index-ys-i.is f) in
    record { follows = rw (p.1, p.2) (rw (c.as_slice-listed.ensures.is, c.as_slice-xs.ensures.is, c.as_slice-ys.ensures.is) at whole) }

pub branches-returns : goal.branches-returns
branches-returns g t c =
    let h : min (length c.as_slice-listed.result.now) (min (length c.as_slice-xs.result.now) (length c.as_slice-ys.result.now)) ≤ c.loop-i.i = search rules in
    let whole = c.loop-i.invariant.rest _ _ (branches_done (at_room c.args.env.now c.args.room) c.args.ctx.now c.args.x.now.params c.as_slice-listed.result.now c.as_slice-xs.result.now c.as_slice-ys.result.now c.loop-i.i c.loop-i.m h) in
    record { follows = rw (c.as_slice-listed.ensures.is, c.as_slice-xs.ensures.is, c.as_slice-ys.ensures.is) at whole }

-- heads

pub heads-matches-requires : goal.heads-matches-requires
heads-matches-requires g t c =
    let ea = rw c.in-Case-Case.is-0 at c.view.ensures.is in
    let eb = rw c.in-Case-Case.is-1 at c.view-2.ensures.is in
    let k = rw (← ea, ← eb) at c.requires.comparable in
    search (rules, k)

pub heads-returns-in-Case-Case : goal.heads-returns-in-Case-Case
heads-returns-in-Case-Case g t c =
    let ea = rw c.in-Case-Case.is-0 at c.view.ensures.is in
    let eb = rw c.in-Case-Case.is-1 at c.view-2.ensures.is in
    record { follows = rw (← ea, ← eb) (rw (c.get.ensures.is, c.get-in-Case-Case.ensures.is) at c.matches.ensures.follows) }

pub heads-fixpoints-requires : goal.heads-fixpoints-requires
heads-fixpoints-requires g t c =
    let ea = rw c.in-Fix-Fix.is-0 at c.view.ensures.is in
    let eb = rw c.in-Fix-Fix.is-1 at c.view-2.ensures.is in
    let k = types_comparable _ _ _ _ _ _ _ _ _ _ (rw (← ea, ← eb) at c.requires.comparable) in
    let l = bodies_comparable _ _ _ _ _ _ _ _ _ _ (rw (← ea, ← eb) at c.requires.comparable) in
    search (rules, k, l)

pub heads-returns-in-Fix-Fix : goal.heads-returns-in-Fix-Fix
heads-returns-in-Fix-Fix g t c =
    let ea = rw c.in-Fix-Fix.is-0 at c.view.ensures.is in
    let eb = rw c.in-Fix-Fix.is-1 at c.view-2.ensures.is in
    record { follows = rw (← ea, ← eb) c.fixpoints.ensures.follows }

-- fixpoints

pub fixpoints-each-requires : goal.fixpoints-each-requires
fixpoints-each-requires g t c =
    let k = same_comparable _ _ _ _ _ _ c.in_ok-left.ensures.ok c.in_ok-right.ensures.ok c.requires.types in
    search (rules, k)

pub fixpoints-returns-in_err-left : goal.fixpoints-returns-in_err-left
fixpoints-returns-in_err-left g t c = record { follows = follows_no_memory _ _ _ _ (ap stop_of c.in_err-left.ensures.only_memory) c.from_residual.ensures.1 (search leaving) }

pub fixpoints-returns-in_err-right : goal.fixpoints-returns-in_err-right
fixpoints-returns-in_err-right g t c = record { follows = follows_no_memory _ _ _ _ (ap stop_of c.in_err-right.ensures.only_memory) c.from_residual-in_err-right.ensures.1 (search leaving) }

pub fixpoints-returns-in_err-each : goal.fixpoints-returns-in_err-each
fixpoints-returns-in_err-each g t c =
    let p = err_from_is_err_and c.from_residual-in_err-each.result c.from_residual-in_err-each.ensures.1 in
    let f = rw (c.in_ok-left.ensures.ok, c.in_ok-right.ensures.ok) at c.in_err-each.ensures.follows in
    record { follows = rw (p.1, p.2) (follows_err _ _ _ _ _ f (search leaving)) }

pub fixpoints-returns : goal.fixpoints-returns
fixpoints-returns g t c =
    let f = rw (c.in_ok-left.ensures.ok, c.in_ok-right.ensures.ok) at c.in_ok-each.ensures.follows in
    record { follows = follows_bind _ _ _ _ _ _ _ f c.compare_bodies.ensures.follows }

pub compare_bodies-each-requires : goal.compare_bodies-each-requires
compare_bodies-each-requires g t c =
    let b = same_comparable _ _ _ _ _ _ c.in_ok-left.ensures.ok c.in_ok-right.ensures.ok c.requires.bodies in
    let k = extended_comparable _ _ _ (lifted_types 0 (list_of (types_of c.args.ds.now))) _ _ (c.in_ok-inner.ensures.longer ∙ ap (λ (es : List Term). extend c.args.ctx.now es) c.in_ok-entries.ensures.ok) b in
    search (rules, k)

pub compare_bodies-returns-in_err-entries : goal.compare_bodies-returns-in_err-entries
compare_bodies-returns-in_err-entries g t c =
    let p = err_from_is_err_and c.from_residual.result c.from_residual.ensures.1 in
    record {
      follows = rw (p.1, p.2) (entering_fault c.args.ctx.now (lifted_types 0 (list_of (types_of c.args.ds.now))) (λ d. run_all
          (each_equal (at_room c.args.env.now c.args.room) d (list_of (bodies_of (length c.args.ds.now) c.args.ds.now)) (list_of (bodies_of (length c.args.es.now) c.args.es.now)))) _ c.args.m.now c.in_err-entries.ensures.too_deep (search leaving));
    }

pub compare_bodies-returns-in_err-inner : goal.compare_bodies-returns-in_err-inner
compare_bodies-returns-in_err-inner g t c = record { follows = follows_no_memory _ _ _ _ c.in_err-inner.ensures.only_memory c.from_residual-in_err-inner.ensures.1 (search leaving) }

pub compare_bodies-returns-in_err-left : goal.compare_bodies-returns-in_err-left
compare_bodies-returns-in_err-left g t c = record { follows = follows_no_memory _ _ _ _ (ap stop_of c.in_err-left.ensures.only_memory) c.from_residual-in_err-left.ensures.1 (search leaving) }

pub compare_bodies-returns-in_err-right : goal.compare_bodies-returns-in_err-right
compare_bodies-returns-in_err-right g t c = record { follows = follows_no_memory _ _ _ _ (ap stop_of c.in_err-right.ensures.only_memory) c.from_residual-in_err-right.ensures.1 (search leaving) }

pub compare_bodies-returns : goal.compare_bodies-returns
compare_bodies-returns g t c =
    let f = rw (c.in_ok-inner.ensures.longer, c.in_ok-entries.ensures.ok, c.in_ok-left.ensures.ok, c.in_ok-right.ensures.ok) at c.each.ensures.follows in
    record {
      follows = entering_goes c.args.ctx.now (lifted_types 0 (list_of (types_of c.args.ds.now))) (λ d. run_all (each_equal (at_room c.args.env.now c.args.room) d (list_of (bodies_of (length c.args.ds.now) c.args.ds.now))
          (list_of (bodies_of (length c.args.es.now) c.args.es.now)))) _ c.args.m.now _ f;
    }

pub matches-returns-in_err-each : goal.matches-returns-in_err-each
matches-returns-in_err-each g t c =
    let e = c.in-Some.ensures.kept in
    let p = err_from_is_err_and c.from_residual.result c.from_residual.ensures.1 in
    record { follows = rw (p.1, p.2) (matched c.args.env.now c.args.room c.args.ctx.now c.args.x.now c.args.y.now (with_parameters e.0 c.in-Some.family.now) _ c.args.m.now _ e.1 (follows_err _ _ _ _ _ c.in_err-each.ensures.follows (search leaving))) }

pub matches-returns-in_err-predicates : goal.matches-returns-in_err-predicates
matches-returns-in_err-predicates g t c =
    let e = c.in-Some.ensures.kept in
    let p = err_from_is_err_and c.from_residual-in_err-predicates.result c.from_residual-in_err-predicates.ensures.1 in
    let f1 = c.in_ok-each.ensures.follows in
    record { follows = rw (p.1, p.2) (matched c.args.env.now c.args.room c.args.ctx.now c.args.x.now c.args.y.now (with_parameters e.0 c.in-Some.family.now) _ c.args.m.now _ e.1 (follows_bind _ _ _ _ _ _ _ f1 (follows_err _ _ _ _ _ (c.in_err-predicates.ensures.follows e.0) (search leaving)))) }

pub matches-returns-in_err-compare : goal.matches-returns-in_err-compare
matches-returns-in_err-compare g t c =
    let e = c.in-Some.ensures.kept in
    let p = err_from_is_err_and c.from_residual-in_err-compare.result c.from_residual-in_err-compare.ensures.1 in
    let f1 = c.in_ok-each.ensures.follows in
    let f2 = c.in_ok-predicates.ensures.follows e.0 in
    record {
      follows = rw (p.1, p.2) (matched c.args.env.now c.args.room c.args.ctx.now c.args.x.now c.args.y.now (with_parameters e.0 c.in-Some.family.now) _ c.args.m.now _ e.1
          (follows_bind _ _ _ _ _ _ _ f1 (follows_bind _ _ _ _ _ _ _ f2 (follows_err _ _ _ _ _ c.in_err-compare.ensures.follows (search leaving)))));
    }
