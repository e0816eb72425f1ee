use Rattle.std.proofs.Common.{rules, arith, ◌≡◌, ◌∙◌, sym, ap, ◌<◌, ◌≤◌, ◌-◌, ◌+◌, true, false, suc, min, length, List, ◌∷◌, refl}
use Rattle.pc_terms.specs.Syntax.{Term, args, list_of}
use Rattle.pc_terms.specs.Lists.{types_of, bodies_of}
use Rattle.calculus_rules.specs.declared.entry.Entry.TheVariants.{Assumed}
use Rattle.calculus_rules.specs.Context.{extend}
use Rattle.calculus_rules.specs.Environment.{with_parameters}
use Rattle.calculus_rules.specs.Instances.{predicate_entries, branch_entries}
use Rattle.calculus_rules.specs.Same.{same}
use Rattle.pc_rules.specs.DirectedComparison.{lifted_types}
use Rattle.pc_rules.specs.Entailment.{test_of}
use Rattle.pc_rules.proofs.SameTrees.{same_yes, same_no}
use Rattle.conversion.specs.Modes.{is_equal}
use Rattle.conversion.proofs.Parts.{whnfs_comparable, left_sort, right_sort, domains_comparable, codomains_comparable, binders_comparable, lambda_bodies_comparable, heads_comparable, args_comparable, items_comparable, parameters_comparable}
use Rattle.conversion.proofs.Parts.{predicates_comparable, scrutinees_comparable, branches_comparable, types_comparable, bodies_comparable, extended_comparable, same_comparable}
use Rattle.script_making.specs.Comparing.{compare_making, each_making}
use Rattle.script_making.proofs.Making.{makes_on, makes_err, makes_passed}
use Rattle.script_making.proofs.Defaults.{sort_and_other, product_and_other, lambda_and_other, other_first, match_and_other, fixpoint_and_other, neither_head}
use Rattle.script_making.proofs.Comparing.{compare_spent, compare_nested, compare_entered, entering_fault, entering_goes, each_next, each_stops, each_done, branches_next, branches_stops, branches_done, matched, unmatched, spines_go, spines_clash, under_comparable}
use Rattle.script_making.proofs.maker.Maker.+compare.Goals as goal
use Rattle.script_making.proofs.maker.Maker.+compare.Goals.{pair-in_default-via-in-Sort+in_default, pair-in_default-via-in-Prod+in_default, pair-in_default-via-in-Lambda+in_default, pair-in_default-via-in_default}
use Rattle.script_making.proofs.maker.Maker.+compare.Goals.{heads-in_default-via-in-Case+in_default, heads-in_default-via-in-Fix+in_default, heads-in_default-via-in_default}

-- the start of a comparison

pub compare-returns-then-not-tick : goal.compare-returns-then-not-tick
compare-returns-then-not-tick g t c =
    let v = c.args.self.now in
    let z : c.args.draft.now.meter.account.left ≡ 0 = search rules in
    record {
      makes = compare_spent v.env.now (test_of v.env.now) c.args.ctx.now (is_equal c.args.mode) c.args.a.now c.args.b.now v.room c.args.draft.now
          (record { meter = c.tick.new.self; written = c.args.draft.now.written }) z c.tick.ensures.account c.tick.ensures.nest;
    }

pub compare-returns-then-not-enter : goal.compare-returns-then-not-enter
compare-returns-then-not-enter g t c =
    let v = c.args.self.now in
    let h : 0 < c.args.draft.now.meter.account.left = search rules in
    let z : c.args.self.now.room ≡ 0 = search rules in
    let k : c.enter.new.self.nest ≡ c.tick.new.self.nest = search rules in
    record {
      makes = compare_nested v.env.now (test_of v.env.now) c.args.ctx.now (is_equal c.args.mode) c.args.a.now c.args.b.now v.room c.args.draft.now
          (record { meter = c.tick.new.self; written = c.args.draft.now.written }) (record { meter = c.enter.new.self; written = c.args.draft.now.written })
          z h c.tick.ensures.account c.tick.ensures.nest c.enter.ensures.account k;
    }

pub compare-returns : goal.compare-returns
compare-returns g t c =
    let v = c.args.self.now in
    let h : 0 < c.args.draft.now.meter.account.left = search rules in
    let k : c.enter.new.self.nest ≡ c.tick.new.self.nest + 1 = search rules in
    let z : c.args.self.now.room ≡ suc (c.args.self.now.room - 1) = search rules in
    record {
      makes = compare_entered v.env.now (test_of v.env.now) c.args.ctx.now (is_equal c.args.mode) c.args.a.now c.args.b.now v.room (v.room - 1) _ c.args.draft.now
          (record { meter = c.tick.new.self; written = c.args.draft.now.written }) (record { meter = c.enter.new.self; written = c.args.draft.now.written })
          c.entered-answer.new.draft (record { meter = c.leave.new.self; written = c.entered-answer.new.draft.written })
          z h c.tick.ensures.account c.tick.ensures.nest c.enter.ensures.account k refl c.entered-answer.ensures.makes c.leave.ensures.account c.leave.ensures.nest refl;
    }

-- equal trees, or both weak-head normal forms

pub entered-returns-then-same : goal.entered-returns-then-same
entered-returns-then-same g t c =
    let e : same c.args.a.now c.args.b.now ≡ true = same_yes _ _ c.same.result c.same.ensures.is c.if-same.true in
    record { makes = rw e c.put.ensures.makes }

pub entered-returns-in_err-x : goal.entered-returns-in_err-x
entered-returns-in_err-x g t c =
    let e : same c.args.a.now c.args.b.now ≡ false = same_no _ _ c.same.result c.same.ensures.is c.if-same.false in
    record { makes = rw e (makes_passed c.from_residual.ensures.1 (makes_err _ c.in_err-x.ensures.makes)) }

pub entered-returns-in_err-y : goal.entered-returns-in_err-y
entered-returns-in_err-y g t c =
    let e : same c.args.a.now c.args.b.now ≡ false = same_no _ _ c.same.result c.same.ensures.is c.if-same.false in
    record { makes = rw e (makes_passed c.from_residual-in_err-y.ensures.1 (makes_on _ c.in_ok-x.ensures.makes (makes_err _ c.in_err-y.ensures.makes))) }

pub entered-pair-requires : goal.entered-pair-requires
entered-pair-requires g t c =
    let k = whnfs_comparable _ _ _ _ _ _ c.requires.comparable c.in_ok-x.ensures.reached c.in_ok-y.ensures.reached in
    let n = c.in_ok-x.ensures.makes.after.nest in
    let m = c.in_ok-y.ensures.makes.after.nest in
    search (rules, k, n, m)

pub entered-returns : goal.entered-returns
entered-returns g t c =
    let e : same c.args.a.now c.args.b.now ≡ false = same_no _ _ c.same.result c.same.ensures.is c.if-same.false in
    record { makes = rw e (makes_on _ c.in_ok-x.ensures.makes (makes_on _ c.in_ok-y.ensures.makes c.pair.ensures.makes)) }

-- sorts, products and lambdas

pub pair-sorts-requires-clause-left : goal.pair-sorts-requires-clause-left
pair-sorts-requires-clause-left g t c =
    let ea = rw c.in-Sort-Sort.is-0 at c.view.ensures.is in
    let eb = rw c.in-Sort-Sort.is-1 at c.view-2.ensures.is in
    left_sort _ _ _ _ (rw (← ea, ← eb) at c.requires.comparable)

pub pair-sorts-requires-clause-right : goal.pair-sorts-requires-clause-right
pair-sorts-requires-clause-right g t c =
    let ea = rw c.in-Sort-Sort.is-0 at c.view.ensures.is in
    let eb = rw c.in-Sort-Sort.is-1 at c.view-2.ensures.is in
    right_sort _ _ _ _ (rw (← ea, ← eb) at c.requires.comparable)

pub pair-returns-in-Sort-Sort : goal.pair-returns-in-Sort-Sort
pair-returns-in-Sort-Sort g t c =
    let ea = rw c.in-Sort-Sort.is-0 at c.view.ensures.is in
    let eb = rw c.in-Sort-Sort.is-1 at c.view-2.ensures.is in
    record { makes = rw (← ea, ← eb) c.sorts.ensures.makes }

pub pair-bound-requires : goal.pair-bound-requires
pair-bound-requires g t c =
    let ea = rw c.in-Prod-Prod.is-0 at c.view.ensures.is in
    let eb = rw c.in-Prod-Prod.is-1 at c.view-2.ensures.is in
    let k = domains_comparable _ _ _ _ _ _ (rw (← ea, ← eb) at c.requires.comparable) in
    let l = codomains_comparable _ _ _ _ _ _ _ refl (rw (← ea, ← eb) at c.requires.comparable) in
    search (rules, k, l)

pub pair-returns-in-Prod-Prod : goal.pair-returns-in-Prod-Prod
pair-returns-in-Prod-Prod g t c =
    let ea = rw c.in-Prod-Prod.is-0 at c.view.ensures.is in
    let eb = rw c.in-Prod-Prod.is-1 at c.view-2.ensures.is in
    record { makes = rw (← ea, ← eb) c.bound.ensures.makes }

pub pair-bound-requires-in-Lambda-Lambda : goal.pair-bound-requires-in-Lambda-Lambda
pair-bound-requires-in-Lambda-Lambda g t c =
    let ea = rw c.in-Lambda-Lambda.is-0 at c.view.ensures.is in
    let eb = rw c.in-Lambda-Lambda.is-1 at c.view-2.ensures.is in
    let k = binders_comparable _ _ _ _ _ _ (rw (← ea, ← eb) at c.requires.comparable) in
    let l = lambda_bodies_comparable _ _ _ _ _ _ _ refl (rw (← ea, ← eb) at c.requires.comparable) in
    search (rules, k, l)

pub pair-returns-in-Lambda-Lambda : goal.pair-returns-in-Lambda-Lambda
pair-returns-in-Lambda-Lambda g t c =
    let ea = rw c.in-Lambda-Lambda.is-0 at c.view.ensures.is in
    let eb = rw c.in-Lambda-Lambda.is-1 at c.view-2.ensures.is in
    record { makes = rw (← ea, ← eb) c.bound-in-Lambda-Lambda.ensures.makes }

pub pair-returns-in_default : goal.pair-returns-in_default
pair-returns-in_default g t c =
    let v = c.args.self.now in
    let cmp = compare_making v.env.now v.room in
    let u = c.args.draft.now.meter.account in
    elim c.in_default.branch [
      | pair-in_default-via-in-Sort+in_default w ↦
          record {
            makes = rw (sort_and_other v.env.now (test_of v.env.now) cmp c.args.ctx.now (is_equal c.args.mode) u _ _ _ _ c.view.ensures.is c.view-2.ensures.is w.in_default.field-0-0 w.in_default.is-0
                w.in_default.not-Sort-1) c.spines.ensures.makes;
          }
      | pair-in_default-via-in-Prod+in_default w ↦
          record {
            makes = rw (product_and_other v.env.now (test_of v.env.now) cmp c.args.ctx.now (is_equal c.args.mode) u _ _ _ _ c.view.ensures.is c.view-2.ensures.is w.in_default.field-0-0 w.in_default.field-1-0
                w.in_default.is-0 w.in_default.not-Prod-1) c.spines.ensures.makes;
          }
      | pair-in_default-via-in-Lambda+in_default w ↦
          record {
            makes = rw (lambda_and_other v.env.now (test_of v.env.now) cmp c.args.ctx.now (is_equal c.args.mode) u _ _ _ _ c.view.ensures.is c.view-2.ensures.is w.in_default.field-0-0 w.in_default.field-1-0
                w.in_default.is-0 w.in_default.not-Lambda-1) c.spines.ensures.makes;
          }
      | pair-in_default-via-in_default w ↦
          record {
            makes = rw (other_first v.env.now (test_of v.env.now) cmp c.args.ctx.now (is_equal c.args.mode) u _ _ _ _ c.view.ensures.is c.view-2.ensures.is w.in_default.not-Sort-0 w.in_default.not-Prod-0
                w.in_default.not-Lambda-0) c.spines.ensures.makes;
          }
    ]

-- under a domain

pub bound-returns-in_err-put : goal.bound-returns-in_err-put
bound-returns-in_err-put g t c = record { makes = makes_passed c.from_residual.ensures.1 (makes_err _ c.in_err-put.ensures.makes) }

pub bound-compare-requires : goal.bound-compare-requires
bound-compare-requires g t c =
    let n = c.in_ok-put.ensures.makes.after.nest in
    search (rules, n)

pub bound-returns-in_err-compare : goal.bound-returns-in_err-compare
bound-returns-in_err-compare g t c =
    record { makes = makes_passed c.from_residual-in_err-compare.ensures.1 (makes_on _ c.in_ok-put.ensures.makes (makes_err _ c.in_err-compare.ensures.makes)) }

pub bound-compare-requires-2 : goal.bound-compare-requires-2
bound-compare-requires-2 g t c =
    let k = under_comparable _ _ _ _ _ _ (c.in_ok-under.ensures.longer ∙ ap (λ (x : Term). Assumed x ∷ c.args.ctx.now) c.in_ok-share.ensures.ok) c.requires.bodies in
    let n = c.in_ok-put.ensures.makes.after.nest in
    let m = c.in_ok-compare.ensures.makes.after.nest in
    search (rules, k, n, m)

pub bound-returns : goal.bound-returns
bound-returns g t c =
    let f = rw (c.in_ok-under.ensures.longer, c.in_ok-share.ensures.ok) at c.compare-2.ensures.makes in
    record { makes = makes_on _ c.in_ok-put.ensures.makes (makes_on _ c.in_ok-compare.ensures.makes f) }

-- spines

pub spines-returns-then-not-fit : goal.spines-returns-then-not-fit
spines-returns-then-not-fit g t c =
    let v = c.args.self.now in
    let q = rw (c.in_ok-left.ensures.head, c.in_ok-right.ensures.head, c.in_ok-left.ensures.args, c.in_ok-right.ensures.args) at c.fit.ensures.is in
    record { makes = rw c.in_ok-clash.ensures.ok (spines_clash v.env.now (compare_making v.env.now v.room) c.args.ctx.now c.args.a.now c.args.b.now c.args.draft.now (sym q ∙ c.if-not-fit.true)) }

pub spines-returns-in_err-put_parts : goal.spines-returns-in_err-put_parts
spines-returns-in_err-put_parts g t c =
    let v = c.args.self.now in
    let q = rw (c.in_ok-left.ensures.head, c.in_ok-right.ensures.head, c.in_ok-left.ensures.args, c.in_ok-right.ensures.args) at c.fit.ensures.is in
    let l : length (args c.args.a.now) ≡ c.len.result = ap (λ (ts : List Term). length ts) (sym c.in_ok-left.ensures.args) ∙ sym c.len.ensures.is in
    let k = c.in_err-put_parts.ensures.makes (args c.args.a.now) l in
    record { makes = makes_passed c.from_residual-in_err-put_parts.ensures.1 (spines_go v.env.now (compare_making v.env.now v.room) c.args.ctx.now c.args.a.now c.args.b.now _ c.args.draft.now _ (sym q ∙ c.if-not-fit.false) (makes_err _ k)) }

pub spines-heads-requires : goal.spines-heads-requires
spines-heads-requires g t c =
    let l : length (args c.args.a.now) ≡ c.len.result = ap (λ (ts : List Term). length ts) (sym c.in_ok-left.ensures.args) ∙ sym c.len.ensures.is in
    let n = (c.in_ok-put_parts.ensures.makes (args c.args.a.now) l).after.nest in
    let k = heads_comparable _ _ _ _ _ _ c.in_ok-left.ensures.head c.in_ok-right.ensures.head c.requires.comparable in
    search (rules, k, n)

pub spines-returns-in_err-heads : goal.spines-returns-in_err-heads
spines-returns-in_err-heads g t c =
    let v = c.args.self.now in
    let q = rw (c.in_ok-left.ensures.head, c.in_ok-right.ensures.head, c.in_ok-left.ensures.args, c.in_ok-right.ensures.args) at c.fit.ensures.is in
    let l : length (args c.args.a.now) ≡ c.len.result = ap (λ (ts : List Term). length ts) (sym c.in_ok-left.ensures.args) ∙ sym c.len.ensures.is in
    let k = c.in_ok-put_parts.ensures.makes (args c.args.a.now) l in
    let f = rw (c.in_ok-left.ensures.head, c.in_ok-right.ensures.head) at c.in_err-heads.ensures.makes in
    record { makes = makes_passed c.from_residual-in_err-heads.ensures.1 (spines_go v.env.now (compare_making v.env.now v.room) c.args.ctx.now c.args.a.now c.args.b.now _ c.args.draft.now _ (sym q ∙ c.if-not-fit.false) (makes_on _ k (makes_err _ f))) }

pub spines-each-requires : goal.spines-each-requires
spines-each-requires g t c =
    let l : length (args c.args.a.now) ≡ c.len.result = ap (λ (ts : List Term). length ts) (sym c.in_ok-left.ensures.args) ∙ sym c.len.ensures.is in
    let n = c.in_ok-heads.ensures.makes.after.nest ∙ (c.in_ok-put_parts.ensures.makes (args c.args.a.now) l).after.nest in
    let k = args_comparable _ _ _ _ _ _ c.in_ok-left.ensures.args c.in_ok-right.ensures.args c.requires.comparable in
    search (rules, k, n)

pub spines-returns : goal.spines-returns
spines-returns g t c =
    let v = c.args.self.now in
    let q = rw (c.in_ok-left.ensures.head, c.in_ok-right.ensures.head, c.in_ok-left.ensures.args, c.in_ok-right.ensures.args) at c.fit.ensures.is in
    let l : length (args c.args.a.now) ≡ c.len.result = ap (λ (ts : List Term). length ts) (sym c.in_ok-left.ensures.args) ∙ sym c.len.ensures.is in
    let k = c.in_ok-put_parts.ensures.makes (args c.args.a.now) l in
    let f = rw (c.in_ok-left.ensures.head, c.in_ok-right.ensures.head) at c.in_ok-heads.ensures.makes in
    let e = rw (c.in_ok-left.ensures.args, c.in_ok-right.ensures.args) at c.each.ensures.makes in
    record { makes = spines_go v.env.now (compare_making v.env.now v.room) c.args.ctx.now c.args.a.now c.args.b.now _ c.args.draft.now _ (sym q ∙ c.if-not-fit.false) (makes_on _ k (makes_on _ f e)) }

-- two lists

pub each-compare-requires : goal.each-compare-requires
each-compare-requires g t c =
    let l : c.loop-i.i < length c.args.ts.now = grind arith in
    let k : c.loop-i.i < length c.args.us.now = grind arith in
    let h = items_comparable _ _ c.args.ts.now c.args.us.now c.loop-i.i c.index-lefts-i.result c.index-rights-i.result l k (cc) (cc) c.requires.comparable in
    search (rules, h)

pub each-loop-i-preserved : goal.each-loop-i-preserved
each-loop-i-preserved g t c =
    let l : c.loop-i.i < length c.as_slice-lefts.result.now = grind arith in
    let k : c.loop-i.i < length c.as_slice-rights.result.now = grind arith in
    let f = c.in_ok-compare.ensures.makes in
    record {
      rest = λ r n x. c.loop-i.invariant.rest r n (each_next (compare_making c.args.self.now.env.now c.args.self.now.room) c.args.ctx.now c.as_slice-lefts.result.now c.as_slice-rights.result.now c.loop-i.i c.index-lefts-i.result c.index-rights-i.result r c.loop-i.draft c.compare.new.draft n l k
          c.index-lefts-i.is c.index-rights-i.is f x);
      nest = c.in_ok-compare.ensures.makes.after.nest ∙ c.loop-i.invariant.nest;
    }

pub each-returns-in_err-compare : goal.each-returns-in_err-compare
each-returns-in_err-compare g t c =
    let l : c.loop-i.i < length c.as_slice-lefts.result.now = grind arith in
    let k : c.loop-i.i < length c.as_slice-rights.result.now = grind arith in
    let f = c.in_err-compare.ensures.makes in
    let whole = c.loop-i.invariant.rest _ _ (each_stops (compare_making c.args.self.now.env.now c.args.self.now.room) c.args.ctx.now c.as_slice-lefts.result.now c.as_slice-rights.result.now c.loop-i.i
    c.index-lefts-i.result c.index-rights-i.result _ c.loop-i.draft c.compare.new.draft l k c.index-lefts-i.is c.index-rights-i.is f) in
    record { makes = makes_passed c.from_residual.ensures.1 (rw (c.as_slice-lefts.ensures.is, c.as_slice-rights.ensures.is) at whole) }

pub each-returns : goal.each-returns
each-returns g t c =
    let h : min (length c.as_slice-lefts.result.now) (length c.as_slice-rights.result.now) ≤ c.loop-i.i = search rules in
    let whole = c.loop-i.invariant.rest _ _ (each_done (compare_making c.args.self.now.env.now c.args.self.now.room) c.args.ctx.now c.as_slice-lefts.result.now c.as_slice-rights.result.now c.loop-i.i c.loop-i.draft h) in
    record { makes = rw (c.as_slice-lefts.ensures.is, c.as_slice-rights.ensures.is) at whole }

-- under a telescope

pub under-compare-requires : goal.under-compare-requires
under-compare-requires g t c =
    let k = extended_comparable _ _ _ c.args.entries.now _ _ c.in_ok-inner.ensures.longer c.requires.comparable in
    search (rules, k)

pub under-returns : goal.under-returns
under-returns g t c =
    let f = rw c.in_ok-inner.ensures.longer at c.compare.ensures.makes in
    record { makes = entering_goes c.args.ctx.now c.args.entries.now (λ d. compare_making c.args.self.now.env.now c.args.self.now.room d true c.args.a.now c.args.b.now) _ c.args.draft.now _ f }

-- matches

pub matches-returns-in_err-put : goal.matches-returns-in_err-put
matches-returns-in_err-put g t c = record { makes = makes_passed c.from_residual.ensures.1 (makes_err _ c.in_err-put.ensures.makes) }

pub matches-returns-in_default : goal.matches-returns-in_default
matches-returns-in_default g t c =
    let v = c.args.self.now in
    record { makes = makes_on _ c.in_ok-put.ensures.makes (unmatched v.env.now v.room c.args.ctx.now c.args.x.now c.args.y.now c.put.new.self c.in_default.ensures.kept) }

pub matches-each-requires : goal.matches-each-requires
matches-each-requires g t c =
    let n = c.in_ok-put.ensures.makes.after.nest in
    let k = parameters_comparable _ _ _ _ _ _ _ _ _ _ _ _ _ _ c.requires.comparable in
    search (rules, k, n)

pub matches-returns-in_err-each : goal.matches-returns-in_err-each
matches-returns-in_err-each g t c =
    let v = c.args.self.now in
    let e = c.in-Some.ensures.kept in
    record {
      makes = makes_passed c.from_residual-in_err-each.ensures.1 (makes_on _ c.in_ok-put.ensures.makes
          (matched v.env.now v.room c.args.ctx.now c.args.x.now c.args.y.now (with_parameters e.0 c.in-Some.family.now) _ c.put.new.self _ e.1 (makes_err _ c.in_err-each.ensures.makes)));
    }

pub matches-predicates-requires : goal.matches-predicates-requires
matches-predicates-requires g t c =
    let n = c.in_ok-each.ensures.makes.after.nest ∙ c.in_ok-put.ensures.makes.after.nest in
    let k = c.requires.comparable in
    search (rules, k, n)

pub matches-returns-in_err-predicates : goal.matches-returns-in_err-predicates
matches-returns-in_err-predicates g t c =
    let v = c.args.self.now in
    let e = c.in-Some.ensures.kept in
    record {
      makes = makes_passed c.from_residual-in_err-predicates.ensures.1 (makes_on _ c.in_ok-put.ensures.makes
          (matched v.env.now v.room c.args.ctx.now c.args.x.now c.args.y.now (with_parameters e.0 c.in-Some.family.now) _ c.put.new.self _ e.1
          (makes_on _ c.in_ok-each.ensures.makes (makes_err _ (c.in_err-predicates.ensures.makes e.0)))));
    }

pub matches-compare-requires : goal.matches-compare-requires
matches-compare-requires g t c =
    let e = c.in-Some.ensures.kept in
    let n = (c.in_ok-predicates.ensures.makes e.0).after.nest ∙ c.in_ok-each.ensures.makes.after.nest ∙ c.in_ok-put.ensures.makes.after.nest in
    let k = scrutinees_comparable _ _ _ _ _ _ _ _ _ _ _ _ _ _ c.requires.comparable in
    search (rules, k, n)

pub matches-returns-in_err-compare : goal.matches-returns-in_err-compare
matches-returns-in_err-compare g t c =
    let v = c.args.self.now in
    let e = c.in-Some.ensures.kept in
    record {
      makes = makes_passed c.from_residual-in_err-compare.ensures.1 (makes_on _ c.in_ok-put.ensures.makes
          (matched v.env.now v.room c.args.ctx.now c.args.x.now c.args.y.now (with_parameters e.0 c.in-Some.family.now) _ c.put.new.self _ e.1
          (makes_on _ c.in_ok-each.ensures.makes (makes_on _ (c.in_ok-predicates.ensures.makes e.0) (makes_err _ c.in_err-compare.ensures.makes)))));
    }

pub matches-branches-requires : goal.matches-branches-requires
matches-branches-requires g t c =
    let e = c.in-Some.ensures.kept in
    let n = c.in_ok-compare.ensures.makes.after.nest ∙ (c.in_ok-predicates.ensures.makes e.0).after.nest ∙ c.in_ok-each.ensures.makes.after.nest ∙ c.in_ok-put.ensures.makes.after.nest in
    let k = c.requires.comparable in
    search (rules, k, n)

pub matches-returns : goal.matches-returns
matches-returns g t c =
    let v = c.args.self.now in
    let e = c.in-Some.ensures.kept in
    record {
      makes = makes_on _ c.in_ok-put.ensures.makes
          (matched v.env.now v.room c.args.ctx.now c.args.x.now c.args.y.now (with_parameters e.0 c.in-Some.family.now) _ c.put.new.self _ e.1
          (makes_on _ c.in_ok-each.ensures.makes (makes_on _ (c.in_ok-predicates.ensures.makes e.0) (makes_on _ c.in_ok-compare.ensures.makes c.branches.ensures.makes))));
    }

pub predicates-under-requires : goal.predicates-under-requires
predicates-under-requires g t c =
    let k = predicates_comparable _ _ _ _ _ _ _ _ _ _ _ _ _ _ c.requires.comparable in
    search (rules, k)

pub predicates-returns-in_err-entries : goal.predicates-returns-in_err-entries
predicates-returns-in_err-entries g t c =
    let v = c.args.self.now in
    record {
      makes = λ Ps. makes_passed c.from_residual.ensures.1 (entering_fault c.args.ctx.now (predicate_entries c.args.x.now.family (with_parameters Ps c.args.family.now) c.args.x.now.params)
          (λ d. compare_making v.env.now v.room d true c.args.x.now.ret c.args.y.now.ret) _ c.args.draft.now (λ e. c.in_err-entries.ensures.too_deep e Ps));
    }

pub predicates-returns : goal.predicates-returns
predicates-returns g t c = record { makes = λ Ps. rw (c.in_ok-entries.ensures.ok Ps) at c.under.ensures.makes }

-- branches

pub branches-under-requires : goal.branches-under-requires
branches-under-requires g t c =
    let k : c.loop-i.i < length c.as_slice-xs.result.now = grind arith in
    let l : c.loop-i.i < length c.as_slice-ys.result.now = grind arith in
    let h = branches_comparable _ _ _ _ _ _ _ _ _ _ _ _ _ _ c.requires.comparable c.loop-i.i c.index-xs-i.result c.index-ys-i.result (grind arith) (grind arith) (cc) (cc) in
    search (rules, h)

pub branches-returns-in_err-entries : goal.branches-returns-in_err-entries
branches-returns-in_err-entries g t c =
    let h : c.loop-i.i < length c.as_slice-listed.result.now = grind arith in
    let k : c.loop-i.i < length c.as_slice-xs.result.now = grind arith in
    let l : c.loop-i.i < length c.as_slice-ys.result.now = grind arith in
    let f = entering_fault c.args.ctx.now (branch_entries c.index-listed-i.result c.args.x.now.params) (λ d. compare_making c.args.self.now.env.now c.args.self.now.room d true c.index-xs-i.result.body c.index-ys-i.result.body) _ c.loop-i.draft c.in_err-entries.ensures.too_deep in
    let whole = c.loop-i.invariant.rest _ _ (branches_stops (compare_making c.args.self.now.env.now c.args.self.now.room) c.args.ctx.now c.args.x.now.params c.as_slice-listed.result.now c.as_slice-xs.result.now c.as_slice-ys.result.now c.loop-i.i c.index-listed-i.result c.index-xs-i.result
    c.index-ys-i.result _ c.loop-i.draft c.loop-i.draft h k l c.index-listed-i.is c.index-xs-i.is c.index-ys-i.is f) in
    record { makes = makes_passed c.from_residual.ensures.1 (rw (c.as_slice-listed.ensures.is, c.as_slice-xs.ensures.is, c.as_slice-ys.ensures.is) at whole) }

pub branches-loop-i-preserved : goal.branches-loop-i-preserved
branches-loop-i-preserved g t c =
    let h : c.loop-i.i < length c.as_slice-listed.result.now = grind arith in
    let k : c.loop-i.i < length c.as_slice-xs.result.now = grind arith in
    let l : c.loop-i.i < length c.as_slice-ys.result.now = grind arith in
    let f = rw (c.in_ok-entries.ensures.ok, ← c.index-xs-i.is, ← c.index-ys-i.is) at c.in_ok-under.ensures.makes in
    record {
      rest = λ r n x. c.loop-i.invariant.rest r n (branches_next (compare_making c.args.self.now.env.now c.args.self.now.room) c.args.ctx.now c.args.x.now.params c.as_slice-listed.result.now c.as_slice-xs.result.now c.as_slice-ys.result.now c.loop-i.i c.index-listed-i.result c.index-xs-i.result
          c.index-ys-i.result r c.loop-i.draft c.under.new.draft n h k l c.index-listed-i.is c.index-xs-i.is c.index-ys-i.is f x);
      nest = c.in_ok-under.ensures.makes.after.nest ∙ c.loop-i.invariant.nest;
    }

pub branches-returns-in_err-under : goal.branches-returns-in_err-under
branches-returns-in_err-under g t c =
    let h : c.loop-i.i < length c.as_slice-listed.result.now = grind arith in
    let k : c.loop-i.i < length c.as_slice-xs.result.now = grind arith in
    let l : c.loop-i.i < length c.as_slice-ys.result.now = grind arith in
    let f = rw (c.in_ok-entries.ensures.ok, ← c.index-xs-i.is, ← c.index-ys-i.is) at c.in_err-under.ensures.makes in
    let whole = c.loop-i.invariant.rest _ _ (branches_stops (compare_making c.args.self.now.env.now c.args.self.now.room) c.args.ctx.now c.args.x.now.params c.as_slice-listed.result.now c.as_slice-xs.result.now c.as_slice-ys.result.now c.loop-i.i c.index-listed-i.result c.index-xs-i.result
    c.index-ys-i.result _ c.loop-i.draft c.under.new.draft h k l c.index-listed-i.is c.index-xs-i.is c.index-ys-i.is f) in
    record { makes = makes_passed c.from_residual-in_err-under.ensures.1 (rw (c.as_slice-listed.ensures.is, c.as_slice-xs.ensures.is, c.as_slice-ys.ensures.is) at whole) }

pub branches-returns : goal.branches-returns
branches-returns g t c =
    let h : min (length c.as_slice-listed.result.now) (min (length c.as_slice-xs.result.now) (length c.as_slice-ys.result.now)) ≤ c.loop-i.i = search rules in
    let whole = c.loop-i.invariant.rest _ _ (branches_done (compare_making c.args.self.now.env.now c.args.self.now.room) c.args.ctx.now c.args.x.now.params c.as_slice-listed.result.now c.as_slice-xs.result.now c.as_slice-ys.result.now c.loop-i.i c.loop-i.draft h) in
    record { makes = rw (c.as_slice-listed.ensures.is, c.as_slice-xs.ensures.is, c.as_slice-ys.ensures.is) at whole }

-- heads

pub heads-matches-requires : goal.heads-matches-requires
heads-matches-requires g t c =
    let ea = rw c.in-Case-Case.is-0 at c.view.ensures.is in
    let eb = rw c.in-Case-Case.is-1 at c.view-2.ensures.is in
    let k = rw (← ea, ← eb) at c.requires.comparable in
    search (rules, k)

pub heads-returns-in-Case-Case : goal.heads-returns-in-Case-Case
heads-returns-in-Case-Case g t c =
    let ea = rw c.in-Case-Case.is-0 at c.view.ensures.is in
    let eb = rw c.in-Case-Case.is-1 at c.view-2.ensures.is in
    record { makes = rw (← ea, ← eb) (rw (c.get.ensures.is, c.get-in-Case-Case.ensures.is) at c.matches.ensures.makes) }

pub heads-fixpoints-requires : goal.heads-fixpoints-requires
heads-fixpoints-requires g t c =
    let ea = rw c.in-Fix-Fix.is-0 at c.view.ensures.is in
    let eb = rw c.in-Fix-Fix.is-1 at c.view-2.ensures.is in
    let k = types_comparable _ _ _ _ _ _ _ _ _ _ (rw (← ea, ← eb) at c.requires.comparable) in
    let l = bodies_comparable _ _ _ _ _ _ _ _ _ _ (rw (← ea, ← eb) at c.requires.comparable) in
    search (rules, k, l)

pub heads-returns-in-Fix-Fix : goal.heads-returns-in-Fix-Fix
heads-returns-in-Fix-Fix g t c =
    let ea = rw c.in-Fix-Fix.is-0 at c.view.ensures.is in
    let eb = rw c.in-Fix-Fix.is-1 at c.view-2.ensures.is in
    record { makes = rw (← ea, ← eb) c.fixpoints.ensures.makes }

pub heads-returns-in_default : goal.heads-returns-in_default
heads-returns-in_default g t c =
    let v = c.args.self.now in
    let cmp = compare_making v.env.now v.room in
    let u = c.args.draft.now.meter.account in
    elim c.in_default.branch [
      | heads-in_default-via-in-Case+in_default w ↦
          record { makes = rw (match_and_other v.env.now cmp c.args.ctx.now u _ _ _ _ c.view.ensures.is c.view-2.ensures.is w.in_default.field-0-0 w.in_default.is-0 w.in_default.not-Case-1) c.put.ensures.makes }
      | heads-in_default-via-in-Fix+in_default w ↦
          record { makes = rw (fixpoint_and_other v.env.now cmp c.args.ctx.now u _ _ _ _ c.view.ensures.is c.view-2.ensures.is w.in_default.field-0-0 w.in_default.field-1-0 w.in_default.is-0 w.in_default.not-Fix-1) c.put.ensures.makes }
      | heads-in_default-via-in_default w ↦
          record { makes = rw (neither_head v.env.now cmp c.args.ctx.now u _ _ _ _ c.view.ensures.is c.view-2.ensures.is w.in_default.not-Case-0 w.in_default.not-Fix-0) c.put.ensures.makes }
    ]

-- fixpoints

pub fixpoints-returns-in_err-put : goal.fixpoints-returns-in_err-put
fixpoints-returns-in_err-put g t c = record { makes = makes_passed c.from_residual.ensures.1 (makes_err _ c.in_err-put.ensures.makes) }

pub fixpoints-each-requires : goal.fixpoints-each-requires
fixpoints-each-requires g t c =
    let n = c.in_ok-put.ensures.makes.after.nest in
    let k = same_comparable _ _ _ _ _ _ c.in_ok-left.ensures.ok c.in_ok-right.ensures.ok c.requires.types in
    search (rules, k, n)

pub fixpoints-returns-in_err-each : goal.fixpoints-returns-in_err-each
fixpoints-returns-in_err-each g t c =
    let f = rw (c.in_ok-left.ensures.ok, c.in_ok-right.ensures.ok) at c.in_err-each.ensures.makes in
    record { makes = makes_passed c.from_residual-in_err-each.ensures.1 (makes_on _ c.in_ok-put.ensures.makes (makes_err _ f)) }

pub fixpoints-compare_bodies-requires : goal.fixpoints-compare_bodies-requires
fixpoints-compare_bodies-requires g t c =
    let n = c.in_ok-each.ensures.makes.after.nest ∙ c.in_ok-put.ensures.makes.after.nest in
    search (rules, n)

pub fixpoints-returns : goal.fixpoints-returns
fixpoints-returns g t c =
    let f = rw (c.in_ok-left.ensures.ok, c.in_ok-right.ensures.ok) at c.in_ok-each.ensures.makes in
    record { makes = makes_on _ c.in_ok-put.ensures.makes (makes_on _ f c.compare_bodies.ensures.makes) }

pub compare_bodies-each-requires : goal.compare_bodies-each-requires
compare_bodies-each-requires g t c =
    let b = same_comparable _ _ _ _ _ _ c.in_ok-left.ensures.ok c.in_ok-right.ensures.ok c.requires.bodies in
    let k = extended_comparable _ _ _ (lifted_types 0 (list_of (types_of c.args.ds.now))) _ _ (c.in_ok-inner.ensures.longer ∙ ap (λ (es : List Term). extend c.args.ctx.now es) c.in_ok-entries.ensures.ok) b in
    search (rules, k)

pub compare_bodies-returns-in_err-entries : goal.compare_bodies-returns-in_err-entries
compare_bodies-returns-in_err-entries g t c =
    let v = c.args.self.now in
    record {
      makes = makes_passed c.from_residual.ensures.1 (entering_fault c.args.ctx.now (lifted_types 0 (list_of (types_of c.args.ds.now)))
          (λ d. each_making v.env.now v.room d (list_of (bodies_of (length c.args.ds.now) c.args.ds.now)) (list_of (bodies_of (length c.args.es.now) c.args.es.now))) _ c.args.draft.now c.in_err-entries.ensures.too_deep);
    }

pub compare_bodies-returns : goal.compare_bodies-returns
compare_bodies-returns g t c =
    let v = c.args.self.now in
    let f = rw (c.in_ok-inner.ensures.longer, c.in_ok-entries.ensures.ok, c.in_ok-left.ensures.ok, c.in_ok-right.ensures.ok) at c.each.ensures.makes in
    record {
      makes = entering_goes c.args.ctx.now (lifted_types 0 (list_of (types_of c.args.ds.now)))
          (λ d. each_making v.env.now v.room d (list_of (bodies_of (length c.args.ds.now) c.args.ds.now)) (list_of (bodies_of (length c.args.es.now) c.args.es.now))) _ c.args.draft.now _ f;
    }
