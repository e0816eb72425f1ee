use Rattle.std.proofs.Common.{rules, arith, ◌≡◌, ◌∙◌, sym, ap, inl, inr, ◌<◌, ◌≤◌, ◌-◌, ◌+◌, true, suc, min, length}
use Rattle.std.proofs.lemmas.List.{length-map}
use Rattle.std.proofs.lemmas.Result.{err_from_is_err_and}
use Rattle.trees.specs.Substitution.{walk}
use Rattle.pc_terms.specs.Syntax.{head, args}
use Rattle.pc_terms.specs.Lists.{walk_branch}
use Rattle.calculus_rules.specs.Environment.{with_parameters}
use Rattle.calculus_rules.specs.Context.{values}
use Rattle.calculus_rules.specs.Instances.{predicate_entries, branch_entries}
use Rattle.pc_rules.specs.Stops.{stop_of}
use Rattle.pc_rules.specs.Entailment.{test_of}
use Rattle.pc_rules.specs.DirectedRun.{run_all, done}
use Rattle.pc_rules.specs.DirectedComparison.{compare, each_equal, lifted_types, heads_equal}
use Rattle.pc_rules.proofs.FairReduction.{comparing_fair}
use Rattle.pc_rules.proofs.Following.{follows_still}
use Rattle.pc_rules.proofs.Leaving.{leaving}
use Rattle.pc_rules.proofs.Meters.{after-refl}
use Rattle.pc_rules.proofs.SameTrees.{same_yes, same_no}
use Rattle.conversion.specs.Modes.{is_equal}
use Rattle.conversion.proofs.Parts.{whnfs_comparable, left_sort, right_sort, domains_comparable, binders_comparable, heads_comparable, items_comparable}
use Rattle.reduce_machine.specs.Reads.{stands_under}
use Rattle.reduce_machine.specs.Seen.{seen_term, argument_term}
use Rattle.lazy_conversion.specs.Lists.{read_list}
use Rattle.lazy_conversion.specs.Stuck.{match_of, defs_of, type_list, body_list}
use Rattle.lazy_conversion.proofs.Tracking.{tracks_bind, tracks_err, tracks_where, tracks_each, tracks_same, tracks_done, tracks_memory, tracks_no_memory, tracks_fault, tracks_assumed, tracks_entering}
use Rattle.lazy_conversion.proofs.Beginning.{tracks_spent, tracks_nested, tracks_entered, entered_same, left_stops, right_stops, both_reduced}
use Rattle.lazy_conversion.proofs.Growing.{list_next, list_stops, list_done, arms_next, arms_stop, arms_done, branch_count, predicate_count, lifted_count, stuck_goes, stuck_unknown, spines_go, spines_clash}
use Rattle.lazy_conversion.proofs.Limits.{heads_beyond, arguments_beyond, items_beyond, domain_beyond, body_beyond, params_beyond, predicate_beyond, scrutinee_beyond, arm_beyond, types_beyond, bodies_beyond, defs_beyond}
use Rattle.lazy_conversion.proofs.ValueKinds.{sort_and_other, product_and_other, lambda_and_other, spine_first, no_parts, both_match}
use Rattle.lazy_conversion.proofs.SameSpines.{item_at}
use Rattle.lazy_conversion.proofs.Comparables.{inner_is_normal, argument_sound, sound_seen, under_comparable, codomains_under, bodies_under, argument_comparable, params_of, predicates_of, scrutinees_of, arms_of_both, types_of_both, bodies_of_both, mapped_at, mapped_within, mapped_least}
use Rattle.lazy_conversion.proofs.Reading.{defs_count}
use Rattle.lazy_conversion.proofs.comparison.LazyCompare.+compare.Goals as goal
use Rattle.lazy_conversion.proofs.comparison.LazyCompare.+compare.Goals.{pair-in_default-via-in-Sort+in_default, pair-in_default-via-in-Product+in_default, pair-in_default-via-in-Lambda+in_default, pair-in_default-via-in_default}

-- the start of a comparison

pub compare-returns-then-not-tick : goal.compare-returns-then-not-tick
compare-returns-then-not-tick t c =
    let z : c.args.m.now.account.left ≡ 0 = search rules in
    record { tracks = tracks_spent _ _ _ _ _ _ c.args.room _ _ z c.tick.ensures.account c.tick.ensures.nest }

pub compare-returns-then-not-enter : goal.compare-returns-then-not-enter
compare-returns-then-not-enter t c =
    let h : 0 < c.args.m.now.account.left = search rules in
    let z : c.args.room ≡ 0 = search rules in
    let k : c.enter.new.self.nest ≡ c.tick.new.self.nest = search rules in
    record { tracks = tracks_nested _ _ _ _ _ _ c.args.room c.args.m.now c.tick.new.self c.enter.new.self z h c.tick.ensures.account c.tick.ensures.nest c.enter.ensures.account k }

pub compare-returns : goal.compare-returns
compare-returns t c =
    let h : 0 < c.args.m.now.account.left = search rules in
    let k : c.enter.new.self.nest ≡ c.tick.new.self.nest + 1 = search rules in
    let z : c.args.room ≡ suc (c.args.room - 1) = search rules in
    record {
      tracks = tracks_entered _ _ _ _ _ _ c.args.room (c.args.room - 1) _ c.args.m.now c.tick.new.self c.enter.new.self c.entered-answer.new.m c.leave.new.self z h c.tick.ensures.account c.tick.ensures.nest c.enter.ensures.account k
          c.entered-answer.ensures.tracks c.leave.ensures.account c.leave.ensures.nest;
    }

-- equal trees, or both weak-head normal forms

pub entered-same_arguments-requires-clause-left : goal.entered-same_arguments-requires-clause-left
entered-same_arguments-requires-clause-left t c = sound_seen _ _ _ c.requires.left

pub entered-same_arguments-requires-clause-right : goal.entered-same_arguments-requires-clause-right
entered-same_arguments-requires-clause-right t c = sound_seen _ _ _ c.requires.right

pub entered-returns-in_err-same : goal.entered-returns-in_err-same
entered-returns-in_err-same t c =
    let p = err_from_is_err_and c.from_residual.result c.from_residual.ensures.1 in
    record { tracks = rw (p.1, p.2) (tracks_fault _ _ c.args.m.now c.in_err-same.ensures.too_deep (search leaving)) }

pub entered-returns-then-same : goal.entered-returns-then-same
entered-returns-then-same t c =
    let e = same_yes _ _ c.in_ok-same.same c.in_ok-same.ensures.ok c.if-same.true in
    let cmp = compare c.args.at.now.env.now (test_of c.args.at.now.env.now) c.args.room in
    record { tracks = entered_same c.args.at.now.env.now (test_of c.args.at.now.env.now) cmp (values c.args.at.now.ctx.now) (is_equal c.args.mode) (argument_term c.args.a) (argument_term c.args.b) c.args.m.now e }

pub entered-returns-in_err-x : goal.entered-returns-in_err-x
entered-returns-in_err-x t c =
    let p = err_from_is_err_and c.from_residual-in_err-x.result c.from_residual-in_err-x.ensures.1 in
    let e = same_no _ _ c.in_ok-same.same c.in_ok-same.ensures.ok c.if-same.false in
    let cmp = compare c.args.at.now.env.now (test_of c.args.at.now.env.now) c.args.room in
    record { tracks = rw (p.1, p.2) (left_stops c.args.at.now.env.now (test_of c.args.at.now.env.now) cmp (values c.args.at.now.ctx.now) (is_equal c.args.mode) (argument_term c.args.a) (argument_term c.args.b) e (comparing_fair _ _ _) _ _ _ c.in_err-x.ensures.follows) }

pub entered-returns-in_err-y : goal.entered-returns-in_err-y
entered-returns-in_err-y t c =
    let p = err_from_is_err_and c.from_residual-in_err-y.result c.from_residual-in_err-y.ensures.1 in
    let e = same_no _ _ c.in_ok-same.same c.in_ok-same.ensures.ok c.if-same.false in
    let cmp = compare c.args.at.now.env.now (test_of c.args.at.now.env.now) c.args.room in
    record { tracks = rw (p.1, p.2) (right_stops c.args.at.now.env.now (test_of c.args.at.now.env.now) cmp (values c.args.at.now.ctx.now) (is_equal c.args.mode) (argument_term c.args.a) (argument_term c.args.b) e _ _ _ c.in_ok-x.ensures.follows (comparing_fair _ _ _) _ _ c.in_err-y.ensures.follows) }

pub entered-pair-requires : goal.entered-pair-requires
entered-pair-requires t c =
    let k = whnfs_comparable _ _ _ _ _ _ c.requires.comparable c.in_ok-x.ensures.reached c.in_ok-y.ensures.reached in
    let f = c.in_ok-x.ensures.follows.after.nest in
    let g = c.in_ok-y.ensures.follows.after.nest in (
      search rules,
      (
        search rules,
        (
          record { seen = c.seen.ensures.seen; normal = rw c.seen.ensures.term c.in_ok-x.ensures.normal },
          (record { seen = c.seen-2.ensures.seen; normal = rw c.seen-2.ensures.term c.in_ok-y.ensures.normal }, rw (c.seen.ensures.term, c.seen-2.ensures.term) k),
        ),
      ),
    )

pub entered-returns : goal.entered-returns
entered-returns t c =
    let e = same_no _ _ c.in_ok-same.same c.in_ok-same.ensures.ok c.if-same.false in
    let f = rw (c.seen.ensures.term, c.seen-2.ensures.term) at c.pair.ensures.tracks in
    let cmp = compare c.args.at.now.env.now (test_of c.args.at.now.env.now) c.args.room in
    record {
      tracks = both_reduced c.args.at.now.env.now (test_of c.args.at.now.env.now) cmp (values c.args.at.now.ctx.now) (is_equal c.args.mode) (argument_term c.args.a) (argument_term c.args.b) e _ _ _ c.in_ok-x.ensures.follows _ _ _ _ c.in_ok-x.ensures.beyond c.in_ok-y.ensures.follows c.in_ok-y.ensures.beyond f;
    }

-- sorts, products and lambdas

pub pair-compare_sorts-requires-clause-left : goal.pair-compare_sorts-requires-clause-left
pair-compare_sorts-requires-clause-left t c =
    let ea = rw c.in-Sort-Sort.is-0 at c.shape_of.ensures.is in
    let eb = rw c.in-Sort-Sort.is-1 at c.shape_of-2.ensures.is in
    left_sort _ _ _ _ (rw (ea, eb) at c.requires.comparable)

pub pair-compare_sorts-requires-clause-right : goal.pair-compare_sorts-requires-clause-right
pair-compare_sorts-requires-clause-right t c =
    let ea = rw c.in-Sort-Sort.is-0 at c.shape_of.ensures.is in
    let eb = rw c.in-Sort-Sort.is-1 at c.shape_of-2.ensures.is in
    right_sort _ _ _ _ (rw (ea, eb) at c.requires.comparable)

pub pair-returns-in-Sort-Sort : goal.pair-returns-in-Sort-Sort
pair-returns-in-Sort-Sort t c =
    let ea = rw c.in-Sort-Sort.is-0 at c.shape_of.ensures.is in
    let eb = rw c.in-Sort-Sort.is-1 at c.shape_of-2.ensures.is in
    record { tracks = rw (ea, eb) (tracks_each _ _ _ _ (after-refl _) (λ d. follows_still _ _ _ (c.compare_sorts.ensures.answers c.args.m.now.account) (search leaving))) }

pub pair-binders-requires : goal.pair-binders-requires
pair-binders-requires t c =
    let ea = rw c.in-Product-Product.is-0 at c.shape_of.ensures.is in
    let eb = rw c.in-Product-Product.is-1 at c.shape_of-2.ensures.is in
    let h = rw (ea, eb) at c.requires.comparable in
    (search rules, (search rules, (domains_comparable _ _ _ _ _ _ h, codomains_under _ _ _ _ _ _ h)))

pub pair-returns-in-Product-Product : goal.pair-returns-in-Product-Product
pair-returns-in-Product-Product t c =
    let ea = rw c.in-Product-Product.is-0 at c.shape_of.ensures.is in
    let eb = rw c.in-Product-Product.is-1 at c.shape_of-2.ensures.is in
    record { tracks = rw (ea, eb) c.binders.ensures.tracks }

pub pair-binders-requires-in-Lambda-Lambda : goal.pair-binders-requires-in-Lambda-Lambda
pair-binders-requires-in-Lambda-Lambda t c =
    let ea = rw c.in-Lambda-Lambda.is-0 at c.shape_of.ensures.is in
    let eb = rw c.in-Lambda-Lambda.is-1 at c.shape_of-2.ensures.is in
    let h = rw (ea, eb) at c.requires.comparable in
    (search rules, (search rules, (binders_comparable _ _ _ _ _ _ h, bodies_under _ _ _ _ _ _ h)))

pub pair-returns-in-Lambda-Lambda : goal.pair-returns-in-Lambda-Lambda
pair-returns-in-Lambda-Lambda t c =
    let ea = rw c.in-Lambda-Lambda.is-0 at c.shape_of.ensures.is in
    let eb = rw c.in-Lambda-Lambda.is-1 at c.shape_of-2.ensures.is in
    record { tracks = rw (ea, eb) c.binders-in-Lambda-Lambda.ensures.tracks }

pub pair-returns-in_default : goal.pair-returns-in_default
pair-returns-in_default t c =
    elim c.in_default.branch [
      | pair-in_default-via-in-Sort+in_default w ↦
          record {
            tracks = tracks_same _ _ _ _ _ (λ d. sort_and_other c.args.at.now.env.now (test_of c.args.at.now.env.now) (compare c.args.at.now.env.now (test_of c.args.at.now.env.now) c.args.room) d (is_equal c.args.mode) c.args.m.now.account _ _ _ _ c.shape_of.ensures.is c.shape_of-2.ensures.is
                w.in_default.field-0-0 w.in_default.is-0 w.in_default.not-Sort-1) c.spines.ensures.tracks;
          }
      | pair-in_default-via-in-Product+in_default w ↦
          record {
            tracks = tracks_same _ _ _ _ _ (λ d. product_and_other c.args.at.now.env.now (test_of c.args.at.now.env.now) (compare c.args.at.now.env.now (test_of c.args.at.now.env.now) c.args.room) d (is_equal c.args.mode) c.args.m.now.account _ _ _ _ c.shape_of.ensures.is c.shape_of-2.ensures.is
                w.in_default.field-0-0 w.in_default.is-0 w.in_default.not-Product-1) c.spines.ensures.tracks;
          }
      | pair-in_default-via-in-Lambda+in_default w ↦
          record {
            tracks = tracks_same _ _ _ _ _ (λ d. lambda_and_other c.args.at.now.env.now (test_of c.args.at.now.env.now) (compare c.args.at.now.env.now (test_of c.args.at.now.env.now) c.args.room) d (is_equal c.args.mode) c.args.m.now.account _ _ _ _ c.shape_of.ensures.is c.shape_of-2.ensures.is
                w.in_default.field-0-0 w.in_default.is-0 w.in_default.not-Lambda-1) c.spines.ensures.tracks;
          }
      | pair-in_default-via-in_default w ↦
          record {
            tracks = tracks_same _ _ _ _ _ (λ d. spine_first c.args.at.now.env.now (test_of c.args.at.now.env.now) (compare c.args.at.now.env.now (test_of c.args.at.now.env.now) c.args.room) d (is_equal c.args.mode) c.args.m.now.account _ _ _ _ c.shape_of.ensures.is c.shape_of-2.ensures.is
                w.in_default.is-0) c.spines.ensures.tracks;
          }
    ]

pub binders-part-requires : goal.binders-part-requires
binders-part-requires t c = (search rules, (c.requires.nest, c.requires.domains))

pub binders-part-requires-2 : goal.binders-part-requires-2
binders-part-requires-2 t c =
    let n = c.in_ok-part.ensures.tracks.after.nest in
    (search rules, (search rules, rw (c.new-setting.ensures.env, c.new-setting.ensures.ctx, c.in_ok-inner.ensures.longer) c.requires.bodies))

pub binders-returns-in_err-part : goal.binders-returns-in_err-part
binders-returns-in_err-part t c =
    let p = err_from_is_err_and c.from_residual.result c.from_residual.ensures.1 in
    record { tracks = rw (p.1, p.2) (tracks_err _ _ _ _ _ (tracks_where _ _ _ _ (domain_beyond c.args.f c.args.g) c.in_err-part.ensures.tracks) (search leaving)) }

pub binders-returns-in_err-inner : goal.binders-returns-in_err-inner
binders-returns-in_err-inner t c =
    let f = tracks_where _ _ _ _ (domain_beyond c.args.f c.args.g) c.in_ok-part.ensures.tracks in
    record { tracks = tracks_bind _ _ _ _ _ _ f (tracks_no_memory _ _ _ _ c.in_err-inner.ensures.only_memory c.from_residual-in_err-inner.ensures.1 (search leaving)) }

pub binders-returns : goal.binders-returns
binders-returns t c =
    let f = tracks_where _ _ _ _ (domain_beyond c.args.f c.args.g) c.in_ok-part.ensures.tracks in
    let g = tracks_where _ _ _ _ (body_beyond c.args.f c.args.g) (rw (c.new-setting.ensures.env, c.new-setting.ensures.ctx, c.in_ok-inner.ensures.longer) at c.part-2.ensures.tracks) in
    record { tracks = tracks_bind _ _ _ _ _ _ f (tracks_assumed _ _ _ _ _ g) }

-- parts

pub part-returns-in_err-same : goal.part-returns-in_err-same
part-returns-in_err-same t c =
    let p = err_from_is_err_and c.from_residual.result c.from_residual.ensures.1 in
    record { tracks = rw (p.1, p.2) (tracks_fault _ _ c.args.m.now (λ e. inl c.in_err-same.ensures.too_deep) (search leaving)) }

pub part-returns-then-same : goal.part-returns-then-same
part-returns-then-same t c =
    let e = c.in_ok-same.ensures.ok c.if-same.true in
    let f = c.compare_same.ensures.follows c.args.at.now.env.now (test_of c.args.at.now.env.now) c.args.at.now.ctx.now (is_equal c.args.mode) _ _ e in
    record { tracks = tracks_each _ _ _ _ f.after (λ d. c.compare_same.ensures.follows c.args.at.now.env.now (test_of c.args.at.now.env.now) d (is_equal c.args.mode) _ _ e) }

pub part-returns-in_err-x : goal.part-returns-in_err-x
part-returns-in_err-x t c =
    let p = err_from_is_err_and c.from_residual-in_err-x.result c.from_residual-in_err-x.ensures.1 in
    record { tracks = rw (p.1, p.2) (tracks_fault _ _ c.args.m.now (λ e. inl (c.in_err-x.ensures.too_deep e)) (search leaving)) }

pub part-returns-in_err-y : goal.part-returns-in_err-y
part-returns-in_err-y t c =
    let p = err_from_is_err_and c.from_residual-in_err-y.result c.from_residual-in_err-y.ensures.1 in
    record { tracks = rw (p.1, p.2) (tracks_fault _ _ c.args.m.now (λ e. inr (c.in_err-y.ensures.too_deep e)) (search leaving)) }

pub part-compare-requires : goal.part-compare-requires
part-compare-requires t c =
    (search rules, (c.requires.nest, (tt, (tt, rw (c.in_ok-x.ensures.ok, c.in_ok-y.ensures.ok) c.requires.comparable))))

pub part-returns : goal.part-returns
part-returns t c = record { tracks = rw (c.in_ok-x.ensures.ok, c.in_ok-y.ensures.ok) at c.compare.ensures.tracks }

-- spines

pub spines-clash_of-requires-clause-left : goal.spines-clash_of-requires-clause-left
spines-clash_of-requires-clause-left t c = c.requires.left.seen

pub spines-clash_of-requires-clause-right : goal.spines-clash_of-requires-clause-right
spines-clash_of-requires-clause-right t c = c.requires.right.seen

pub spines-fit-requires-clause-left : goal.spines-fit-requires-clause-left
spines-fit-requires-clause-left t c = c.requires.left.seen

pub spines-fit-requires-clause-right : goal.spines-fit-requires-clause-right
spines-fit-requires-clause-right t c = c.requires.right.seen

pub spines-returns-in_err-clash : goal.spines-returns-in_err-clash
spines-returns-in_err-clash t c =
    let p = err_from_is_err_and c.from_residual.result c.from_residual.ensures.1 in
    record { tracks = rw (p.1, p.2) (tracks_fault _ _ c.args.m.now c.in_err-clash.ensures.too_deep (search leaving)) }

pub spines-returns-then-not-fit : goal.spines-returns-then-not-fit
spines-returns-then-not-fit t c =
    let cmp = compare c.args.at.now.env.now (test_of c.args.at.now.env.now) c.args.room in
    record { tracks = rw c.in_ok-clash.ensures.ok (spines_clash c.args.at.now.env.now cmp (seen_term c.args.x) (seen_term c.args.y) c.args.m.now (sym c.fit.ensures.is ∙ c.if-not-fit.true)) }

pub spines-returns-in_err-heads : goal.spines-returns-in_err-heads
spines-returns-in_err-heads t c =
    let p = err_from_is_err_and c.from_residual-in_err-heads.result c.from_residual-in_err-heads.ensures.1 in
    let cmp = compare c.args.at.now.env.now (test_of c.args.at.now.env.now) c.args.room in
    record {
      tracks = rw (p.1, p.2) (spines_go c.args.at.now.env.now cmp (seen_term c.args.x) (seen_term c.args.y) _ _ _ (sym c.fit.ensures.is ∙ c.if-not-fit.false) (tracks_err (λ d. heads_equal c.args.at.now.env.now cmp d (head (seen_term c.args.x)) (head (seen_term c.args.y)))
          (λ d. run_all (each_equal cmp d (args (seen_term c.args.x)) (args (seen_term c.args.y)))) _ _ _ c.in_err-heads.ensures.tracks (search leaving)));
    }

pub spines-returns-in_err-keeping : goal.spines-returns-in_err-keeping
spines-returns-in_err-keeping t c =
    let cmp = compare c.args.at.now.env.now (test_of c.args.at.now.env.now) c.args.room in
    record {
      tracks = spines_go c.args.at.now.env.now cmp (seen_term c.args.x) (seen_term c.args.y) _ _ _ (sym c.fit.ensures.is ∙ c.if-not-fit.false) (tracks_bind (λ d. heads_equal c.args.at.now.env.now cmp d (head (seen_term c.args.x)) (head (seen_term c.args.y)))
          (λ d. run_all (each_equal cmp d (args (seen_term c.args.x)) (args (seen_term c.args.y)))) _ _ _ _ c.in_ok-heads.ensures.tracks
          (tracks_no_memory _ _ _ _ (ap stop_of c.in_err-keeping.ensures.only_memory) c.from_residual-in_err-keeping.ensures.1 (search leaving)));
    }

pub spines-arguments-requires : goal.spines-arguments-requires
spines-arguments-requires t c =
    let n = c.in_ok-heads.ensures.tracks.after.nest in
    (search rules, (search rules, (rw (c.in_ok-keeping.ensures.env, c.in_ok-keeping.ensures.ctx) c.requires.left, (rw (c.in_ok-keeping.ensures.env, c.in_ok-keeping.ensures.ctx) c.requires.right, rw (c.in_ok-keeping.ensures.env, c.in_ok-keeping.ensures.ctx) c.requires.comparable))))

pub spines-returns : goal.spines-returns
spines-returns t c =
    let cmp = compare c.args.at.now.env.now (test_of c.args.at.now.env.now) c.args.room in
    record {
      tracks = spines_go c.args.at.now.env.now cmp (seen_term c.args.x) (seen_term c.args.y) _ _ _ (sym c.fit.ensures.is ∙ c.if-not-fit.false) (tracks_bind (λ d. heads_equal c.args.at.now.env.now cmp d (head (seen_term c.args.x)) (head (seen_term c.args.y)))
          (λ d. run_all (each_equal cmp d (args (seen_term c.args.x)) (args (seen_term c.args.y)))) _ _ _ _ c.in_ok-heads.ensures.tracks (rw (c.in_ok-keeping.ensures.env, c.in_ok-keeping.ensures.ctx) at c.arguments.ensures.tracks));
    }

-- heads

pub heads-stuck_match-requires : goal.heads-stuck_match-requires
heads-stuck_match-requires t c = c.requires.left.seen

pub heads-recursive_heads-requires : goal.heads-recursive_heads-requires
heads-recursive_heads-requires t c =
    let n = rw c.in_default.is at c.stuck_match.ensures.is in
    (search rules, (c.requires.nest, (c.requires.left, (c.requires.right, (n, c.requires.comparable)))))

pub heads-returns-in_default : goal.heads-returns-in_default
heads-returns-in_default t c = record { tracks = c.recursive_heads.ensures.tracks }

pub heads-stuck_match-requires-2 : goal.heads-stuck_match-requires-2
heads-stuck_match-requires-2 t c = c.requires.right.seen

pub heads-returns-in_default-stuck_match : goal.heads-returns-in_default-stuck_match
heads-returns-in_default-stuck_match t c =
    let e = rw c.in-Some.is at c.stuck_match.ensures.is in
    let n = rw c.in_default-stuck_match.is at c.stuck_match-2.ensures.is in
    let cmp = compare c.args.at.now.env.now (test_of c.args.at.now.env.now) c.args.room in
    record {
      tracks = tracks_same (λ d u. done tt u) (λ d. heads_equal c.args.at.now.env.now cmp d (head (seen_term c.args.x)) (head (seen_term c.args.y))) _ c.args.m.now c.args.m.now
          (λ d. no_parts c.args.at.now.env.now cmp d (head (seen_term c.args.x)) (head (seen_term c.args.y)) c.args.m.now.account (λ a b. n b) (λ a b. both_match (head (seen_term c.args.x)) (head (seen_term c.args.y)) (rw e tt) a b)) (tracks_done c.args.m.now);
    }

pub heads-matches-requires : goal.heads-matches-requires
heads-matches-requires t c =
    let e = rw c.in-Some.is at c.stuck_match.ensures.is in
    let d = rw c.in-Some-stuck_match.is at c.stuck_match-2.ensures.is in
    let i = rw c.in-Some.is at c.stuck_match.ensures.scrut in
    let j = rw c.in-Some-stuck_match.is at c.stuck_match-2.ensures.scrut in (
      search rules,
      (
        c.requires.nest,
        (inner_is_normal _ _ _ _ c.requires.left i, (inner_is_normal _ _ _ _ c.requires.right j, heads_comparable _ _ _ _ _ _ (sym e) (sym d) c.requires.comparable)),
      ),
    )

pub heads-returns : goal.heads-returns
heads-returns t c =
    let e = rw c.in-Some.is at c.stuck_match.ensures.is in
    let d = rw c.in-Some-stuck_match.is at c.stuck_match-2.ensures.is in
    record { tracks = rw (e, d) (tracks_where _ _ _ _ (heads_beyond (seen_term c.args.x) (seen_term c.args.y) _ _ e d) c.matches.ensures.tracks) }

pub recursive_heads-fixpoint-requires : goal.recursive_heads-fixpoint-requires
recursive_heads-fixpoint-requires t c = c.requires.left.seen

pub recursive_heads-fixpoint-requires-2 : goal.recursive_heads-fixpoint-requires-2
recursive_heads-fixpoint-requires-2 t c = c.requires.right.seen

pub recursive_heads-returns-in_default : goal.recursive_heads-returns-in_default
recursive_heads-returns-in_default t c =
    let n = rw c.in_default.is at c.fixpoint.ensures.is in
    let cmp = compare c.args.at.now.env.now (test_of c.args.at.now.env.now) c.args.room in
    record {
      tracks = tracks_same (λ d u. done tt u) (λ d. heads_equal c.args.at.now.env.now cmp d (head (seen_term c.args.x)) (head (seen_term c.args.y))) _ c.args.m.now c.args.m.now
          (λ d. no_parts c.args.at.now.env.now cmp d (head (seen_term c.args.x)) (head (seen_term c.args.y)) c.args.m.now.account (λ a b. c.requires.other a) (λ a b. n a)) (tracks_done c.args.m.now);
    }

pub recursive_heads-returns-in_default-fixpoint : goal.recursive_heads-returns-in_default-fixpoint
recursive_heads-returns-in_default-fixpoint t c =
    let n = rw c.in_default-fixpoint.is at c.fixpoint-2.ensures.is in
    let cmp = compare c.args.at.now.env.now (test_of c.args.at.now.env.now) c.args.room in
    record {
      tracks = tracks_same (λ d u. done tt u) (λ d. heads_equal c.args.at.now.env.now cmp d (head (seen_term c.args.x)) (head (seen_term c.args.y))) _ c.args.m.now c.args.m.now
          (λ d. no_parts c.args.at.now.env.now cmp d (head (seen_term c.args.x)) (head (seen_term c.args.y)) c.args.m.now.account (λ a b. c.requires.other a) (λ a b. n b)) (tracks_done c.args.m.now);
    }

pub recursive_heads-fixpoints-requires : goal.recursive_heads-fixpoints-requires
recursive_heads-fixpoints-requires t c =
    let e = rw c.in-Some.is at c.fixpoint.ensures.is in
    let d = rw c.in-Some-fixpoint.is at c.fixpoint-2.ensures.is in
    let h = heads_comparable _ _ _ _ _ _ (sym e.1) (sym d.1) c.requires.comparable in
    (search rules, (c.requires.nest, (types_of_both _ _ _ _ _ _ h, bodies_of_both _ _ _ _ _ _ h)))

pub recursive_heads-returns : goal.recursive_heads-returns
recursive_heads-returns t c =
    let e = rw c.in-Some.is at c.fixpoint.ensures.is in
    let d = rw c.in-Some-fixpoint.is at c.fixpoint-2.ensures.is in
    record { tracks = rw (e.1, d.1) (tracks_where _ _ _ _ (λ p. heads_beyond (seen_term c.args.x) (seen_term c.args.y) _ _ e.1 d.1 (defs_beyond e.0 d.0 (defs_of c.in-Some.f) (defs_of c.in-Some-fixpoint.g) p)) c.fixpoints.ensures.tracks) }

-- arguments

pub arguments-argument-left-requires : goal.arguments-argument-left-requires
arguments-argument-left-requires t c = record { seen = c.requires.left.seen; within = grind arith }

pub arguments-compare-requires : goal.arguments-compare-requires
arguments-compare-requires t c =
    let h : c.loop-i.i < length (args (seen_term c.args.x)) = grind arith in
    let k : c.loop-i.i < length (args (seen_term c.args.y)) = grind arith in
    let n = c.loop-i.invariant.nest in (
      search rules,
      (
        search rules,
        (
          argument_sound _ _ _ _ c.requires.left c.argument-left.ensures.inner,
          (
            argument_sound _ _ _ _ c.requires.right c.argument-right.ensures.inner,
            argument_comparable _ _ (seen_term c.args.x) (seen_term c.args.y) c.loop-i.i _ _ h k (item_at (args (seen_term c.args.x)) c.loop-i.i _ c.argument-left.ensures.is) (item_at (args (seen_term c.args.y)) c.loop-i.i _ c.argument-right.ensures.is) c.requires.comparable,
          ),
        ),
      ),
    )

pub arguments-loop-i-preserved : goal.arguments-loop-i-preserved
arguments-loop-i-preserved t c =
    let h : c.loop-i.i < length (args (seen_term c.args.x)) = grind arith in
    let k : c.loop-i.i < length (args (seen_term c.args.y)) = grind arith in
    let e = item_at (args (seen_term c.args.x)) c.loop-i.i _ c.argument-left.ensures.is in
    let d = item_at (args (seen_term c.args.y)) c.loop-i.i _ c.argument-right.ensures.is in
    let f = tracks_where _ _ _ _ (arguments_beyond (seen_term c.args.x) (seen_term c.args.y) c.loop-i.i _ _ h k e d) c.in_ok-compare.ensures.tracks in
    record {
      rest = λ r n x. c.loop-i.invariant.rest r n (list_next (compare c.args.at.now.env.now (test_of c.args.at.now.env.now) c.args.room) (args (seen_term c.args.x)) (args (seen_term c.args.y)) c.loop-i.i _ _ r c.loop-i.m c.compare.new.m n h k e d f x);
      nest = c.in_ok-compare.ensures.tracks.after.nest ∙ c.loop-i.invariant.nest;
    }

pub arguments-returns-in_err-compare : goal.arguments-returns-in_err-compare
arguments-returns-in_err-compare t c =
    let p = err_from_is_err_and c.from_residual.result c.from_residual.ensures.1 in
    let h : c.loop-i.i < length (args (seen_term c.args.x)) = grind arith in
    let k : c.loop-i.i < length (args (seen_term c.args.y)) = grind arith in
    let e = item_at (args (seen_term c.args.x)) c.loop-i.i _ c.argument-left.ensures.is in
    let d = item_at (args (seen_term c.args.y)) c.loop-i.i _ c.argument-right.ensures.is in
    let f = tracks_where _ _ _ _ (arguments_beyond (seen_term c.args.x) (seen_term c.args.y) c.loop-i.i _ _ h k e d) c.in_err-compare.ensures.tracks in
    record { tracks = rw (p.1, p.2) (c.loop-i.invariant.rest _ _ (list_stops (compare c.args.at.now.env.now (test_of c.args.at.now.env.now) c.args.room) (args (seen_term c.args.x)) (args (seen_term c.args.y)) (comparing_fair _ _ _) c.loop-i.i _ _ _ c.loop-i.m c.compare.new.m h k e d f)) }

pub arguments-returns : goal.arguments-returns
arguments-returns t c =
    let h : min (length (args (seen_term c.args.x))) (length (args (seen_term c.args.y))) ≤ c.loop-i.i = search rules in
    record { tracks = c.loop-i.invariant.rest _ _ (list_done (compare c.args.at.now.env.now (test_of c.args.at.now.env.now) c.args.room) (args (seen_term c.args.x)) (args (seen_term c.args.y)) c.loop-i.i c.loop-i.m h) }

-- two lists

pub each-part-requires : goal.each-part-requires
each-part-requires t c =
    let il : c.loop-i.i < length c.args.ts.terms.now = grind arith in
    let ik : c.loop-i.i < length c.args.us.terms.now = grind arith in
    let l = mapped_within (walk (stands_under c.args.ts.env.now.items) c.args.ts.under) c.args.ts.terms.now c.loop-i.i il in
    let k = mapped_within (walk (stands_under c.args.us.env.now.items) c.args.us.under) c.args.us.terms.now c.loop-i.i ik in
    let e = mapped_at (walk (stands_under c.args.ts.env.now.items) c.args.ts.under) c.args.ts.terms.now c.loop-i.i c.index-lefts-i.result il (cc) in
    let d = mapped_at (walk (stands_under c.args.us.env.now.items) c.args.us.under) c.args.us.terms.now c.loop-i.i c.index-rights-i.result ik (cc) in
    let n = c.loop-i.invariant.nest in
    (search rules, (search rules, items_comparable c.args.at.now.env.now (values c.args.at.now.ctx.now) (read_list c.args.ts) (read_list c.args.us) c.loop-i.i _ _ l k e d c.requires.comparable))

pub each-loop-i-preserved : goal.each-loop-i-preserved
each-loop-i-preserved t c =
    let il : c.loop-i.i < length c.args.ts.terms.now = grind arith in
    let ik : c.loop-i.i < length c.args.us.terms.now = grind arith in
    let l = mapped_within (walk (stands_under c.args.ts.env.now.items) c.args.ts.under) c.args.ts.terms.now c.loop-i.i il in
    let k = mapped_within (walk (stands_under c.args.us.env.now.items) c.args.us.under) c.args.us.terms.now c.loop-i.i ik in
    let e = mapped_at (walk (stands_under c.args.ts.env.now.items) c.args.ts.under) c.args.ts.terms.now c.loop-i.i c.index-lefts-i.result il (cc) in
    let d = mapped_at (walk (stands_under c.args.us.env.now.items) c.args.us.under) c.args.us.terms.now c.loop-i.i c.index-rights-i.result ik (cc) in
    let f = tracks_where _ _ _ _ (items_beyond (read_list c.args.ts) (read_list c.args.us) c.loop-i.i _ _ l k e d) c.in_ok-part.ensures.tracks in
    record {
      rest = λ r n x. c.loop-i.invariant.rest r n (list_next (compare c.args.at.now.env.now (test_of c.args.at.now.env.now) c.args.room) (read_list c.args.ts) (read_list c.args.us) c.loop-i.i _ _ r c.loop-i.m c.part.new.m n l k e d f x);
      nest = c.in_ok-part.ensures.tracks.after.nest ∙ c.loop-i.invariant.nest;
    }

pub each-returns-in_err-part : goal.each-returns-in_err-part
each-returns-in_err-part t c =
    let p = err_from_is_err_and c.from_residual.result c.from_residual.ensures.1 in
    let il : c.loop-i.i < length c.args.ts.terms.now = grind arith in
    let ik : c.loop-i.i < length c.args.us.terms.now = grind arith in
    let l = mapped_within (walk (stands_under c.args.ts.env.now.items) c.args.ts.under) c.args.ts.terms.now c.loop-i.i il in
    let k = mapped_within (walk (stands_under c.args.us.env.now.items) c.args.us.under) c.args.us.terms.now c.loop-i.i ik in
    let e = mapped_at (walk (stands_under c.args.ts.env.now.items) c.args.ts.under) c.args.ts.terms.now c.loop-i.i c.index-lefts-i.result il (cc) in
    let d = mapped_at (walk (stands_under c.args.us.env.now.items) c.args.us.under) c.args.us.terms.now c.loop-i.i c.index-rights-i.result ik (cc) in
    let f = tracks_where _ _ _ _ (items_beyond (read_list c.args.ts) (read_list c.args.us) c.loop-i.i _ _ l k e d) c.in_err-part.ensures.tracks in
    record { tracks = rw (p.1, p.2) (c.loop-i.invariant.rest _ _ (list_stops (compare c.args.at.now.env.now (test_of c.args.at.now.env.now) c.args.room) (read_list c.args.ts) (read_list c.args.us) (comparing_fair _ _ _) c.loop-i.i _ _ _ c.loop-i.m c.part.new.m l k e d f)) }

pub each-returns : goal.each-returns
each-returns t c =
    let m : min (length c.as_slice-lefts.result.now) (length c.as_slice-rights.result.now) ≤ c.loop-i.i = search rules in
    let h = mapped_least (walk (stands_under c.args.ts.env.now.items) c.args.ts.under) (walk (stands_under c.args.us.env.now.items) c.args.us.under) c.args.ts.terms.now c.args.us.terms.now c.loop-i.i (rw (c.as_slice-lefts.ensures.is, c.as_slice-rights.ensures.is) at m) in
    record { tracks = c.loop-i.invariant.rest _ _ (list_done (compare c.args.at.now.env.now (test_of c.args.at.now.env.now) c.args.room) (read_list c.args.ts) (read_list c.args.us) c.loop-i.i c.loop-i.m h) }

-- matches

pub matches-returns-in_default : goal.matches-returns-in_default
matches-returns-in_default t c =
    let n = rw c.in_default.is at c.kept_family.ensures.kept in
    record { tracks = stuck_unknown c.args.at.now.env.now (compare c.args.at.now.env.now (test_of c.args.at.now.env.now) c.args.room) (match_of c.args.x) (match_of c.args.y) c.args.m.now n }

pub matches-each-requires : goal.matches-each-requires
matches-each-requires t c =
    (search rules, (c.requires.nest, rw (c.params.ensures.is, c.params-2.ensures.is) (params_of c.args.at.now.env.now (values c.args.at.now.ctx.now) (match_of c.args.x) (match_of c.args.y) c.requires.comparable)))

pub matches-returns-in_err-each : goal.matches-returns-in_err-each
matches-returns-in_err-each t c =
    let e = c.in-Some.ensures.kept in
    let p = err_from_is_err_and c.from_residual.result c.from_residual.ensures.1 in
    let f = rw (c.params.ensures.is, c.params-2.ensures.is) at c.in_err-each.ensures.tracks in
    record { tracks = rw (p.1, p.2) (stuck_goes c.args.at.now.env.now (compare c.args.at.now.env.now (test_of c.args.at.now.env.now) c.args.room) (match_of c.args.x) (match_of c.args.y) (with_parameters e.0 c.in-Some.family.now) _ _ _ e.1 (tracks_err _ _ _ _ _ (tracks_where _ _ _ _ (params_beyond (match_of c.args.x) (match_of c.args.y)) f) (search leaving))) }

pub matches-predicates-requires : goal.matches-predicates-requires
matches-predicates-requires t c =
    let n = c.in_ok-each.ensures.tracks.after.nest in
    (search rules, (search rules, c.requires.comparable))

pub matches-returns-in_err-predicates : goal.matches-returns-in_err-predicates
matches-returns-in_err-predicates t c =
    let e = c.in-Some.ensures.kept in
    let p = err_from_is_err_and c.from_residual-in_err-predicates.result c.from_residual-in_err-predicates.ensures.1 in
    let f = tracks_where _ _ _ _ (params_beyond (match_of c.args.x) (match_of c.args.y)) (rw (c.params.ensures.is, c.params-2.ensures.is) at c.in_ok-each.ensures.tracks) in
    record {
      tracks = rw (p.1, p.2) (stuck_goes c.args.at.now.env.now (compare c.args.at.now.env.now (test_of c.args.at.now.env.now) c.args.room) (match_of c.args.x) (match_of c.args.y) (with_parameters e.0 c.in-Some.family.now) _ _ _ e.1 (tracks_bind _ _ _ _ _ _ f (tracks_err _ _ _ _ _ (c.in_err-predicates.ensures.tracks e.0) (search leaving))));
    }

pub matches-compare-requires : goal.matches-compare-requires
matches-compare-requires t c =
    let e = c.in-Some.ensures.kept in
    let n : c.predicates.new.m.nest ≡ c.args.m.now.nest = (c.in_ok-predicates.ensures.tracks e.0).after.nest ∙ c.in_ok-each.ensures.tracks.after.nest in
    (search rules, (search rules, (c.requires.left, (c.requires.right, scrutinees_of c.args.at.now.env.now (values c.args.at.now.ctx.now) (match_of c.args.x) (match_of c.args.y) c.requires.comparable))))

pub matches-returns-in_err-compare : goal.matches-returns-in_err-compare
matches-returns-in_err-compare t c =
    let e = c.in-Some.ensures.kept in
    let p = err_from_is_err_and c.from_residual-in_err-compare.result c.from_residual-in_err-compare.ensures.1 in
    let f = tracks_where _ _ _ _ (params_beyond (match_of c.args.x) (match_of c.args.y)) (rw (c.params.ensures.is, c.params-2.ensures.is) at c.in_ok-each.ensures.tracks) in
    let s = tracks_where _ _ _ _ (scrutinee_beyond (match_of c.args.x) (match_of c.args.y)) c.in_err-compare.ensures.tracks in
    record {
      tracks = rw (p.1, p.2) (stuck_goes c.args.at.now.env.now (compare c.args.at.now.env.now (test_of c.args.at.now.env.now) c.args.room) (match_of c.args.x) (match_of c.args.y) (with_parameters e.0 c.in-Some.family.now) _ _ _ e.1 (tracks_bind _ _ _ _ _ _ f (tracks_bind _ _ _ _ _ _ (c.in_ok-predicates.ensures.tracks e.0) (tracks_err _ _ _ _ _ s (search leaving)))));
    }

pub matches-branches-requires : goal.matches-branches-requires
matches-branches-requires t c =
    let e = c.in-Some.ensures.kept in
    let n : c.compare.new.m.nest ≡ c.args.m.now.nest = c.in_ok-compare.ensures.tracks.after.nest ∙ (c.in_ok-predicates.ensures.tracks e.0).after.nest ∙ c.in_ok-each.ensures.tracks.after.nest in
    (search rules, (search rules, c.requires.comparable))

pub matches-returns : goal.matches-returns
matches-returns t c =
    let e = c.in-Some.ensures.kept in
    let f = tracks_where _ _ _ _ (params_beyond (match_of c.args.x) (match_of c.args.y)) (rw (c.params.ensures.is, c.params-2.ensures.is) at c.in_ok-each.ensures.tracks) in
    let s = tracks_where _ _ _ _ (scrutinee_beyond (match_of c.args.x) (match_of c.args.y)) c.in_ok-compare.ensures.tracks in
    record {
      tracks = stuck_goes c.args.at.now.env.now (compare c.args.at.now.env.now (test_of c.args.at.now.env.now) c.args.room) (match_of c.args.x) (match_of c.args.y) (with_parameters e.0 c.in-Some.family.now) _ _ _ e.1 (tracks_bind _ _ _ _ _ _ f (tracks_bind _ _ _ _ _ _ (c.in_ok-predicates.ensures.tracks e.0) (tracks_bind _ _ _ _ _ _ s c.branches.ensures.tracks)));
    }

pub predicates-part-requires : goal.predicates-part-requires
predicates-part-requires t c =
    let k = predicates_of c.args.at.now.env.now (values c.args.at.now.ctx.now) (match_of c.args.x) (match_of c.args.y) c.requires.comparable in
    let h = under_comparable c.args.at.now.env.now (values c.args.at.now.ctx.now) _ (suc (length c.args.family.now.indices)) _ _ c.in_ok-inner.ensures.longer k in
    (search rules, (c.requires.nest, rw (c.new-setting.ensures.env, c.new-setting.ensures.ctx, c.predicate.ensures.is, c.predicate-2.ensures.is) h))

pub predicates-returns-in_err-inner : goal.predicates-returns-in_err-inner
predicates-returns-in_err-inner t c = record { tracks = λ Ps. tracks_no_memory _ _ _ _ c.in_err-inner.ensures.only_memory c.from_residual.ensures.1 (search leaving) }

pub predicates-returns : goal.predicates-returns
predicates-returns t c =
    let f = rw (c.new-setting.ensures.env, c.new-setting.ensures.ctx, c.predicate.ensures.is, c.predicate-2.ensures.is, c.in_ok-inner.ensures.longer) at c.part.ensures.tracks in
    record {
      tracks = λ Ps. tracks_entering c.args.at.now.env.now (predicate_entries c.args.x.outer.now.family (with_parameters Ps c.args.family.now) (match_of c.args.x).params) (suc (length c.args.family.now.indices))
          (λ d. compare c.args.at.now.env.now (test_of c.args.at.now.env.now) c.args.room d true (match_of c.args.x).ret (match_of c.args.y).ret) c.part.result c.args.m.now c.part.new.m (predicate_count c.args.x.outer.now.family Ps c.args.family.now (match_of c.args.x).params)
          (tracks_where _ _ _ _ (predicate_beyond (match_of c.args.x) (match_of c.args.y)) f);
    }

pub branches-part-requires : goal.branches-part-requires
branches-part-requires t c =
    let ik : c.loop-i.i < length c.args.x.outer.now.branches = grind arith in
    let il : c.loop-i.i < length c.args.y.outer.now.branches = grind arith in
    let k = mapped_within (walk_branch (stands_under c.args.x.env.now.items) 0) c.args.x.outer.now.branches c.loop-i.i ik in
    let l = mapped_within (walk_branch (stands_under c.args.y.env.now.items) 0) c.args.y.outer.now.branches c.loop-i.i il in
    let e = mapped_at (walk_branch (stands_under c.args.x.env.now.items) 0) c.args.x.outer.now.branches c.loop-i.i c.index-xs-i.result ik (cc) in
    let d = mapped_at (walk_branch (stands_under c.args.y.env.now.items) 0) c.args.y.outer.now.branches c.loop-i.i c.index-ys-i.result il (cc) in
    let b = arms_of_both c.args.at.now.env.now (values c.args.at.now.ctx.now) (match_of c.args.x) (match_of c.args.y) c.requires.comparable c.loop-i.i _ _ k l e d in
    let w = under_comparable c.args.at.now.env.now (values c.args.at.now.ctx.now) _ (length c.index-listed-i.result.args) _ _ c.in_ok-inner.ensures.longer b in
    let n = c.loop-i.invariant.nest in
    (search rules, (search rules, rw (c.new-setting.ensures.env, c.new-setting.ensures.ctx, c.body-left.ensures.is, c.body-right.ensures.is) w))

pub branches-loop-i-preserved : goal.branches-loop-i-preserved
branches-loop-i-preserved t c =
    let h : c.loop-i.i < length c.args.ctors.now = grind arith in
    let ik : c.loop-i.i < length c.args.x.outer.now.branches = grind arith in
    let il : c.loop-i.i < length c.args.y.outer.now.branches = grind arith in
    let k = mapped_within (walk_branch (stands_under c.args.x.env.now.items) 0) c.args.x.outer.now.branches c.loop-i.i ik in
    let l = mapped_within (walk_branch (stands_under c.args.y.env.now.items) 0) c.args.y.outer.now.branches c.loop-i.i il in
    let e = mapped_at (walk_branch (stands_under c.args.x.env.now.items) 0) c.args.x.outer.now.branches c.loop-i.i c.index-xs-i.result ik (cc) in
    let d = mapped_at (walk_branch (stands_under c.args.y.env.now.items) 0) c.args.y.outer.now.branches c.loop-i.i c.index-ys-i.result il (cc) in
    let g = rw (c.new-setting.ensures.env, c.new-setting.ensures.ctx, c.body-left.ensures.is, c.body-right.ensures.is, c.in_ok-inner.ensures.longer) at c.in_ok-part.ensures.tracks in
    let left = walk_branch (stands_under c.args.x.env.now.items) 0 c.index-xs-i.result in
    let right = walk_branch (stands_under c.args.y.env.now.items) 0 c.index-ys-i.result in
    let cmp = compare c.args.at.now.env.now (test_of c.args.at.now.env.now) c.args.room in
    let f = tracks_entering c.args.at.now.env.now (branch_entries c.index-listed-i.result (match_of c.args.x).params) (length c.index-listed-i.result.args) (λ b. cmp b true left.body right.body) _ c.loop-i.m c.part.new.m
    (branch_count c.index-listed-i.result (match_of c.args.x).params) (tracks_where _ _ _ _ (arm_beyond (match_of c.args.x) (match_of c.args.y) c.loop-i.i left right k l e d) g) in
    record {
      rest = λ r n x. c.loop-i.invariant.rest r n (arms_next cmp (match_of c.args.x).params c.args.ctors.now (match_of c.args.x).branches (match_of c.args.y).branches c.loop-i.i c.index-listed-i.result left right r c.loop-i.m c.part.new.m n h k l (cc) e d f x);
      nest = c.in_ok-part.ensures.tracks.after.nest ∙ c.loop-i.invariant.nest;
    }

pub branches-returns-in_err-part : goal.branches-returns-in_err-part
branches-returns-in_err-part t c =
    let p = err_from_is_err_and c.from_residual-in_err-part.result c.from_residual-in_err-part.ensures.1 in
    let h : c.loop-i.i < length c.args.ctors.now = grind arith in
    let ik : c.loop-i.i < length c.args.x.outer.now.branches = grind arith in
    let il : c.loop-i.i < length c.args.y.outer.now.branches = grind arith in
    let k = mapped_within (walk_branch (stands_under c.args.x.env.now.items) 0) c.args.x.outer.now.branches c.loop-i.i ik in
    let l = mapped_within (walk_branch (stands_under c.args.y.env.now.items) 0) c.args.y.outer.now.branches c.loop-i.i il in
    let e = mapped_at (walk_branch (stands_under c.args.x.env.now.items) 0) c.args.x.outer.now.branches c.loop-i.i c.index-xs-i.result ik (cc) in
    let d = mapped_at (walk_branch (stands_under c.args.y.env.now.items) 0) c.args.y.outer.now.branches c.loop-i.i c.index-ys-i.result il (cc) in
    let g = rw (c.new-setting.ensures.env, c.new-setting.ensures.ctx, c.body-left.ensures.is, c.body-right.ensures.is, c.in_ok-inner.ensures.longer) at c.in_err-part.ensures.tracks in
    let left = walk_branch (stands_under c.args.x.env.now.items) 0 c.index-xs-i.result in
    let right = walk_branch (stands_under c.args.y.env.now.items) 0 c.index-ys-i.result in
    let cmp = compare c.args.at.now.env.now (test_of c.args.at.now.env.now) c.args.room in
    let f = tracks_entering c.args.at.now.env.now (branch_entries c.index-listed-i.result (match_of c.args.x).params) (length c.index-listed-i.result.args) (λ b. cmp b true left.body right.body) _ c.loop-i.m c.part.new.m
    (branch_count c.index-listed-i.result (match_of c.args.x).params) (tracks_where _ _ _ _ (arm_beyond (match_of c.args.x) (match_of c.args.y) c.loop-i.i left right k l e d) g) in
    record {
      tracks = rw (p.1, p.2) (c.loop-i.invariant.rest _ _ (arms_stop cmp (match_of c.args.x).params c.args.ctors.now (match_of c.args.x).branches (match_of c.args.y).branches (comparing_fair _ _ _) c.loop-i.i c.index-listed-i.result left right _ c.loop-i.m c.part.new.m h k l (cc) e d f));
    }

pub branches-returns-in_err-inner : goal.branches-returns-in_err-inner
branches-returns-in_err-inner t c =
    let p = err_from_is_err_and c.from_residual.result c.from_residual.ensures.1 in
    record { tracks = rw (p.1, p.2, c.in_err-inner.ensures.only_memory) (c.loop-i.invariant.rest _ _ (tracks_memory _ c.loop-i.m (search leaving))) }

pub branches-returns : goal.branches-returns
branches-returns t c =
    let p = length-map c.args.x.outer.now.branches (walk_branch (stands_under c.args.x.env.now.items) 0) in
    let q = length-map c.args.y.outer.now.branches (walk_branch (stands_under c.args.y.env.now.items) 0) in
    let h : min (length c.args.ctors.now) (min (length (match_of c.args.x).branches) (length (match_of c.args.y).branches)) ≤ c.loop-i.i = grind arith in
    let cmp = compare c.args.at.now.env.now (test_of c.args.at.now.env.now) c.args.room in
    record { tracks = c.loop-i.invariant.rest _ _ (arms_done cmp (match_of c.args.x).params c.args.ctors.now (match_of c.args.x).branches (match_of c.args.y).branches c.loop-i.i c.loop-i.m h) }

-- fixpoints

pub fixpoints-each-requires : goal.fixpoints-each-requires
fixpoints-each-requires t c =
    (search rules, (c.requires.nest, rw (c.type_parts-ts.ensures.is, c.type_parts-us.ensures.is) c.requires.types))

pub fixpoints-returns-in_err-left : goal.fixpoints-returns-in_err-left
fixpoints-returns-in_err-left t c = record { tracks = tracks_no_memory _ _ _ _ (ap stop_of c.in_err-left.ensures.only_memory) c.from_residual.ensures.1 (search leaving) }

pub fixpoints-returns-in_err-right : goal.fixpoints-returns-in_err-right
fixpoints-returns-in_err-right t c = record { tracks = tracks_no_memory _ _ _ _ (ap stop_of c.in_err-right.ensures.only_memory) c.from_residual-in_err-right.ensures.1 (search leaving) }

pub fixpoints-returns-in_err-each : goal.fixpoints-returns-in_err-each
fixpoints-returns-in_err-each t c =
    let p = err_from_is_err_and c.from_residual-in_err-each.result c.from_residual-in_err-each.ensures.1 in
    let f = tracks_where _ _ _ _ (types_beyond (defs_of c.args.f) (defs_of c.args.g)) (rw (c.type_parts-ts.ensures.is, c.type_parts-us.ensures.is) at c.in_err-each.ensures.tracks) in
    record { tracks = rw (p.1, p.2) (tracks_err _ _ _ _ _ f (search leaving)) }

pub fixpoints-bodies-requires : goal.fixpoints-bodies-requires
fixpoints-bodies-requires t c =
    let n = c.in_ok-each.ensures.tracks.after.nest in
    (search rules, (search rules, c.requires.bodies))

pub fixpoints-returns : goal.fixpoints-returns
fixpoints-returns t c =
    let f = tracks_where _ _ _ _ (types_beyond (defs_of c.args.f) (defs_of c.args.g)) (rw (c.type_parts-ts.ensures.is, c.type_parts-us.ensures.is) at c.in_ok-each.ensures.tracks) in
    record { tracks = tracks_bind _ _ _ _ _ _ f c.bodies.ensures.tracks }

pub bodies-each-requires : goal.bodies-each-requires
bodies-each-requires t c =
    let h = under_comparable c.args.at.now.env.now (values c.args.at.now.ctx.now) _ (length c.args.f.defs.now) _ _ c.in_ok-inner.ensures.longer c.requires.bodies in
    (search rules, (c.requires.nest, rw (c.new-setting.ensures.env, c.new-setting.ensures.ctx, c.body_parts-ts.ensures.is, c.body_parts-us.ensures.is) h))

pub bodies-returns-in_err-left : goal.bodies-returns-in_err-left
bodies-returns-in_err-left t c = record { tracks = tracks_no_memory _ _ _ _ (ap stop_of c.in_err-left.ensures.only_memory) c.from_residual.ensures.1 (search leaving) }

pub bodies-returns-in_err-right : goal.bodies-returns-in_err-right
bodies-returns-in_err-right t c = record { tracks = tracks_no_memory _ _ _ _ (ap stop_of c.in_err-right.ensures.only_memory) c.from_residual-in_err-right.ensures.1 (search leaving) }

pub bodies-returns-in_err-inner : goal.bodies-returns-in_err-inner
bodies-returns-in_err-inner t c = record { tracks = tracks_no_memory _ _ _ _ c.in_err-inner.ensures.only_memory c.from_residual-in_err-inner.ensures.1 (search leaving) }

pub bodies-returns : goal.bodies-returns
bodies-returns t c =
    let g = tracks_where _ _ _ _ (bodies_beyond (defs_of c.args.f) (defs_of c.args.g)) (rw (c.new-setting.ensures.env, c.new-setting.ensures.ctx, c.body_parts-ts.ensures.is, c.body_parts-us.ensures.is, c.in_ok-inner.ensures.longer) at c.each.ensures.tracks) in
    record {
      tracks = tracks_entering c.args.at.now.env.now (lifted_types 0 (type_list (defs_of c.args.f))) (length c.args.f.defs.now)
          (λ d. run_all (each_equal (compare c.args.at.now.env.now (test_of c.args.at.now.env.now) c.args.room) d (body_list (defs_of c.args.f)) (body_list (defs_of c.args.g)))) c.each.result c.args.m.now c.each.new.m
          (lifted_count (defs_of c.args.f) ∙ defs_count c.args.f) g;
    }
