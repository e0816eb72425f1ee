use Rattle.std.proofs.Common.{rules, arith, ◌≡◌, ℕ, suc, ap, refl, subst, sym, ◌*◌, ◌/◌, ◌+◌, ◌-◌, ◌<◌, ◌≤◌, ◌∷◌, ◌++◌, [], List, true, false, length, length-append, drop, get_or, reverse, take, ◌∙◌}
use Rattle.std.proofs.lemmas.List.{take-append-le}
use Rattle.std.proofs.lemmas.Result.{on_ok_weaker}
use Rattle.closure_lift.specs.Lifted.{tail_of}
use Rattle.closure_lift.specs.LiftedView.{seen, branches_of}
use Rattle.closure_lift.specs.LiftedWeight.{block_weight, branches_weight, bound_weight}
use Rattle.closure_lift.specs.declared.program.LiftedBranch.{LiftedBranch}
use Rattle.wasm_emit.specs.Pushed.{Pushed, ends}
use Rattle.wasm_emit.proofs.Lighter.{op_lighter, tail_lighter, arm_lighter}
use Rattle.known_calls.specs.KnownPlaces.{Place}
use Rattle.known_calls.specs.KnownTests.{Alternative, Fielded, none, chain, most_rounds}
use Rattle.known_calls.specs.KnownCode.{atom}
use Rattle.known_calls.specs.KnownMarks.{Begins, bound_marks, branch_marks, empty_marks, head_marks, kind_marks}
use Rattle.known_calls.specs.KnownPushed.{OneArm, op_code, under_position, block_code, branch_code, alternative_of, kind_of, branches_code, search_code, count_of, place_bound, op_unmade}
use Rattle.known_calls.proofs.KnownMarking.{kind_marks_step, kind_branch_marks, no_kind_marks, end_marks, mark_now, begin_op, begin_behind, left_behind, begin_arm, begin_more, left_more, left_end, bare_left, kind_marks_halves, first_part, second_part, both_parts}
use Rattle.known_calls.proofs.KnownPushing.{branch_pushed, block_more}
use Rattle.known_calls.proofs.KnownArms.{last_is, by_halves_is, by_halves_not, front_lighter, back_lighter, all_past, arms_more, more_behind, arms_end, alone_is, halves_pushed, case_pushed, one_kind, few_bare, both_kinds, few_pushed, both_pushed}
use Rattle.known_calls.proofs.blocks.+blocks.Goals as goal

pub push_block-push_binding-requires : goal.push_block-push_binding-requires
push_block-push_binding-requires t c =
    let ops = c.as_slice-op-items.result.now in
    let d = op_lighter ops c.b.inside.bindings c.loop-op.op-index c.op-item.result c.b.inside.tail c.args.b.now c.loop-op-test.true c.op-item.is c.as_slice-op-items.ensures.is c.b.view_is in
    let e : 64 * bound_weight (seen c.op-item.result) + 5 < 64 * block_weight c.args.b.now = omega (arith, d) in
    let m : Begins (bound_marks (seen c.op-item.result)) (drop 1 (reverse c.loop-op.marks.items)) = begin_op ops c.loop-op.op-index c.op-item.result (tail_of (seen c.b.inside.tail)) c.loop-op-test.true c.op-item.is (reverse c.loop-op.marks.items) c.loop-op.invariant.marked in
    search (rules, e, m)

pub push_block-push_op-requires : goal.push_block-push_op-requires
push_block-push_op-requires t c =
    let d = tail_lighter c.b.inside.bindings c.b.inside.tail c.args.b.now c.b.view_is in
    let e : 64 * bound_weight (seen c.b.inside.tail) + 1 < 64 * block_weight c.args.b.now = omega (arith, d) in
    let m : Begins (bound_marks (seen c.b.inside.tail)) (reverse c.loop-op.marks.items) =
    subst (λ ms. Begins ms (reverse c.loop-op.marks.items)) (end_marks c.as_slice-op-items.result.now c.loop-op.op-index (seen c.b.inside.tail) c.loop-op-test.false) c.loop-op.invariant.marked in
    search (rules, e, m)

pub push_block-loop-op-preserved : goal.push_block-loop-op-preserved
push_block-loop-op-preserved t c =
    let ops = c.as_slice-op-items.result.now in
    let tail = tail_of (seen c.b.inside.tail) in
    let all = reverse c.loop-op.marks.items in
    let now = place_bound c.loop-op.local (op_unmade c.args.p.now (reverse c.loop-op.places.items) (get_or all 0 true) (seen c.op-item.result)) in
    record {
      pushed = block_more c.args.p.now ops c.loop-op.op-index c.op-item.result tail c.loop-op.places.items c.push_binding.new.places.items c.loop-op.local c.in_ok-local.local c.args.site.at (get_or all 0 true) c.loop-op.out.items c.push_binding.new.out.items c.args.out.now.items
          (block_code c.args.p.now (reverse c.args.places.now.items) c.args.site.local c.args.site.at c.args.b.now) c.loop-op-test.true c.op-item.is (mark_now ops c.loop-op.op-index c.op-item.result tail c.loop-op-test.true c.op-item.is all c.loop-op.invariant.marked)
          c.in_ok-local.ensures.place c.in_ok-local.ensures.next c.in_ok-local.ensures.pushed c.loop-op.invariant.pushed;
      marked = begin_behind ops c.loop-op.op-index c.op-item.result tail c.loop-op-test.true c.op-item.is all c.loop-op.invariant.marked (reverse c.push_binding.new.marks.items) c.in_ok-local.ensures.left;
      left = left_behind ops c.loop-op.op-index c.op-item.result tail c.loop-op-test.true c.op-item.is all c.loop-op.invariant.marked (reverse c.push_binding.new.marks.items) c.in_ok-local.ensures.left ∙ c.loop-op.invariant.left;
      kept = ap (λ (zs : List Place). take c.len-outer.result zs) c.in_ok-local.ensures.place ∙ take-append-le c.len-outer.result c.loop-op.places.items (now ∷ []) c.loop-op.invariant.more ∙ c.loop-op.invariant.kept;
      more = omega (arith, ap length c.in_ok-local.ensures.place, length-append c.loop-op.places.items (now ∷ []), c.loop-op.invariant.more);
    }

-- the branches of a kind, all with tests
pub push_tested-push_arm-requires : goal.push_tested-push_arm-requires
push_tested-push_arm-requires t c =
    let k = c.args.part.kind in
    let d = arm_lighter c.args.bs.now c.loop-c.c c.index-bs-c.result c.loop-c-test.true c.index-bs-c.is in
    let e : 64 * block_weight c.index-bs-c.result.body + 2 < 64 * branches_weight (branches_of c.args.bs.now) + 4 = omega (arith, d) in
    let m0 : Begins (kind_marks k (branches_of (c.index-bs-c.result ∷ []))) (reverse c.loop-c.marks.items) = begin_arm (kind_marks k) (kind_marks_step k) c.args.bs.now c.loop-c.c c.index-bs-c.result c.loop-c-test.true c.index-bs-c.is (reverse c.loop-c.marks.items) c.loop-c.invariant.marked in
    let m = subst (λ a. Begins (kind_marks a.kind (branches_of (c.index-bs-c.result ∷ []))) (reverse c.loop-c.marks.items)) (sym c.in_ok-arm.ensures.is) m0 in
    search (rules, e, m)

pub push_tested-loop-c-preserved : goal.push_tested-loop-c-preserved
push_tested-loop-c-preserved t c =
    let b = c.index-bs-c.result in
    let Q = c.args.p.now in
    let env = reverse c.args.places.now.items in
    let at = c.args.part.site.at in
    let d = c.args.part.site.local in
    let k = c.args.part.kind in
    let first = c.args.part.first in
    let all = reverse c.loop-c.marks.items in
    let z : OneArm c.in_ok-arm.arm.site.local c.in_ok-arm.arm.site.at c.in_ok-arm.arm.kind (alternative_of Q env c.in_ok-arm.arm.site.local c.in_ok-arm.arm.number b) c.loop-c.out.items c.push_arm.new.out.items c.in_ok-arms.arms =
    subst (λ zs. OneArm c.in_ok-arm.arm.site.local c.in_ok-arm.arm.site.at c.in_ok-arm.arm.kind (alternative_of Q (reverse zs) c.in_ok-arm.arm.site.local c.in_ok-arm.arm.number b) c.loop-c.out.items c.push_arm.new.out.items c.in_ok-arms.arms) c.loop-c.invariant.same c.in_ok-arms.ensures.pushed in
    let x : OneArm d (under_position c.loop-c.begun at) k (alternative_of Q env d (first + c.loop-c.c) b) c.loop-c.out.items c.push_arm.new.out.items c.in_ok-arms.arms =
    subst (λ a. OneArm a.site.local a.site.at a.kind (alternative_of Q env a.site.local a.number b) c.loop-c.out.items c.push_arm.new.out.items c.in_ok-arms.arms) c.in_ok-arm.ensures.is z in
    let y = subst (λ a. reverse c.push_arm.new.marks.items ≡ drop (length (kind_marks a.kind (branches_of (b ∷ [])))) all) c.in_ok-arm.ensures.is c.in_ok-arms.ensures.left in
    record {
      pushed = λ others. arms_more Q env d k at first c.loop-c.c c.args.bs.now b c.loop-c.begun c.in_ok-arms.arms (c.loop-c.begun + c.in_ok-arms.arms) c.loop-c.out.items c.push_arm.new.out.items c.args.out.now.items c.loop-c-test.true c.index-bs-c.is refl x true (λ e. refl) others
          (chain d true (kind_of Q env d k first (branches_of c.args.bs.now)) others at) (c.loop-c.invariant.pushed others);
      marked = begin_more (kind_marks k) (kind_marks_step k) c.args.bs.now c.loop-c.c b c.loop-c-test.true c.index-bs-c.is all c.loop-c.invariant.marked (reverse c.push_arm.new.marks.items) y;
      left = left_more (kind_marks k) (kind_marks_step k) c.args.bs.now c.loop-c.c b c.loop-c-test.true c.index-bs-c.is all c.loop-c.invariant.marked (reverse c.push_arm.new.marks.items) y ∙ c.loop-c.invariant.left;
      same = c.in_ok-arms.ensures.same ∙ c.loop-c.invariant.same;
      few = omega (arith, x.few, c.loop-c.invariant.few);
    }

pub push_tested-returns-clause-pushed : goal.push_tested-returns-clause-pushed
push_tested-returns-clause-pushed t c =
    let k = c.args.part.kind in
    let d = c.args.part.site.local in
    let env = reverse c.args.places.now.items in
    record {
      is = λ others rest. ap (λ (xs : List Alternative). c.loop-c.out.items ++ chain d true xs others (under_position c.loop-c.begun c.args.part.site.at) (ends c.loop-c.begun rest)) (sym (all_past c.args.p.now env d k c.loop-c.c (c.args.part.first + c.loop-c.c) c.args.bs.now c.loop-c-test.false))
          ∙ c.loop-c.invariant.pushed others rest;
    }

-- the branches of a kind, of which the last has no test
pub push_told-push_arm-requires : goal.push_told-push_arm-requires
push_told-push_arm-requires t c =
    let k = c.args.part.kind in
    let d = arm_lighter c.args.bs.now c.loop-c.c c.index-bs-c.result c.loop-c-test.true c.index-bs-c.is in
    let e : 64 * block_weight c.index-bs-c.result.body + 2 < 64 * branches_weight (branches_of c.args.bs.now) + 4 = omega (arith, d) in
    let m0 : Begins (kind_marks k (branches_of (c.index-bs-c.result ∷ []))) (reverse c.loop-c.marks.items) = begin_arm (kind_marks k) (kind_marks_step k) c.args.bs.now c.loop-c.c c.index-bs-c.result c.loop-c-test.true c.index-bs-c.is (reverse c.loop-c.marks.items) c.loop-c.invariant.marked in
    let m = subst (λ a. Begins (kind_marks a.kind (branches_of (c.index-bs-c.result ∷ []))) (reverse c.loop-c.marks.items)) (sym c.in_ok-arm.ensures.is) m0 in
    search (rules, e, m)

pub push_told-loop-c-preserved : goal.push_told-loop-c-preserved
push_told-loop-c-preserved t c =
    let b = c.index-bs-c.result in
    let Q = c.args.p.now in
    let env = reverse c.args.places.now.items in
    let at = c.args.part.site.at in
    let d = c.args.part.site.local in
    let k = c.args.part.kind in
    let first = c.args.part.first in
    let all = reverse c.loop-c.marks.items in
    let z : OneArm c.in_ok-arm.arm.site.local c.in_ok-arm.arm.site.at c.in_ok-arm.arm.kind (alternative_of Q env c.in_ok-arm.arm.site.local c.in_ok-arm.arm.number b) c.loop-c.out.items c.push_arm.new.out.items c.in_ok-arms.arms =
    subst (λ zs. OneArm c.in_ok-arm.arm.site.local c.in_ok-arm.arm.site.at c.in_ok-arm.arm.kind (alternative_of Q (reverse zs) c.in_ok-arm.arm.site.local c.in_ok-arm.arm.number b) c.loop-c.out.items c.push_arm.new.out.items c.in_ok-arms.arms) c.loop-c.invariant.same c.in_ok-arms.ensures.pushed in
    let x : OneArm d (under_position c.loop-c.begun at) k (alternative_of Q env d (first + c.loop-c.c) b) c.loop-c.out.items c.push_arm.new.out.items c.in_ok-arms.arms =
    subst (λ a. OneArm a.site.local a.site.at a.kind (alternative_of Q env a.site.local a.number b) c.loop-c.out.items c.push_arm.new.out.items c.in_ok-arms.arms) c.in_ok-arm.ensures.is z in
    let y = subst (λ a. reverse c.push_arm.new.marks.items ≡ drop (length (kind_marks a.kind (branches_of (b ∷ [])))) all) c.in_ok-arm.ensures.is c.in_ok-arms.ensures.left in
    let behind = more_behind Q env d k at first c.loop-c.c c.args.bs.now b c.loop-c.begun c.in_ok-arms.arms (c.loop-c.begun + c.in_ok-arms.arms) c.loop-c.out.items c.push_arm.new.out.items c.args.out.now.items c.loop-c-test.true c.index-bs-c.is refl (sym c.is_last_of.ensures.is ∙ c.if-is_last_of.false) in
    record {
      pushed = arms_more Q env d k at first c.loop-c.c c.args.bs.now b c.loop-c.begun c.in_ok-arms.arms (c.loop-c.begun + c.in_ok-arms.arms) c.loop-c.out.items c.push_arm.new.out.items c.args.out.now.items c.loop-c-test.true c.index-bs-c.is refl x false behind none
          (chain d false (kind_of Q env d k first (branches_of c.args.bs.now)) none at) c.loop-c.invariant.pushed;
      marked = begin_more (kind_marks k) (kind_marks_step k) c.args.bs.now c.loop-c.c b c.loop-c-test.true c.index-bs-c.is all c.loop-c.invariant.marked (reverse c.push_arm.new.marks.items) y;
      left = left_more (kind_marks k) (kind_marks_step k) c.args.bs.now c.loop-c.c b c.loop-c-test.true c.index-bs-c.is all c.loop-c.invariant.marked (reverse c.push_arm.new.marks.items) y ∙ c.loop-c.invariant.left;
      same = c.in_ok-arms.ensures.same ∙ c.loop-c.invariant.same;
      few = omega (arith, x.few, c.loop-c.invariant.few);
    }

pub push_told-returns-clause-pushed : goal.push_told-returns-clause-pushed
push_told-returns-clause-pushed t c =
    let k = c.args.part.kind in
    let d = c.args.part.site.local in
    let env = reverse c.args.places.now.items in
    record {
      is = λ rest. c.in_ok-push.ensures.pushed.is (ends c.loop-c.begun rest)
          ∙ ap (λ (xs : List Alternative). c.loop-c.out.items ++ chain d false xs none (under_position c.loop-c.begun c.args.part.site.at) (ends c.loop-c.begun rest)) (sym (all_past c.args.p.now env d k c.loop-c.c (c.args.part.first + c.loop-c.c) c.args.bs.now c.loop-c-test.false))
          ∙ c.loop-c.invariant.pushed rest;
    }

pub push_told-push_fielded-requires : goal.push_told-push_fielded-requires
push_told-push_fielded-requires t c =
    let b = c.index-bs-c.result in
    let k = c.args.part.kind in
    let all = reverse c.loop-c.marks.items in
    let last = last_is k b.binders (branches_of (drop (c.loop-c.c + 1) c.args.bs.now)) (sym c.is_last_of.ensures.is ∙ c.if-is_last_of.true) in
    let d = arm_lighter c.args.bs.now c.loop-c.c b c.loop-c-test.true c.index-bs-c.is in
    let e : 64 * block_weight b.body + 1 < 64 * branches_weight (branches_of c.args.bs.now) + 4 = omega (arith, d) in
    let m : Begins (branch_marks b.binders b.body) all = subst (λ ms. Begins ms all) (kind_branch_marks k b.binders b.body last.0) (begin_arm (kind_marks k) (kind_marks_step k) c.args.bs.now c.loop-c.c b c.loop-c-test.true c.index-bs-c.is all c.loop-c.invariant.marked) in
    search (rules, e, m)

pub push_told-returns-then-is_last_of-clause-pushed : goal.push_told-returns-then-is_last_of-clause-pushed
push_told-returns-then-is_last_of-clause-pushed t c =
    let b = c.index-bs-c.result in
    let Q = c.args.p.now in
    let env = reverse c.args.places.now.items in
    let at = c.args.part.site.at in
    let d = c.args.part.site.local in
    let k = c.args.part.kind in
    let z : Pushed c.loop-c.out.items c.push_fielded.new.out.items (branch_code Q env c.in_ok-arm.arm.site.local c.in_ok-arm.arm.site.at b) =
    subst (λ zs. Pushed c.loop-c.out.items c.push_fielded.new.out.items (branch_code Q (reverse zs) c.in_ok-arm.arm.site.local c.in_ok-arm.arm.site.at b)) c.loop-c.invariant.same c.in_ok-push_fielded.ensures.pushed in
    let x : Pushed c.loop-c.out.items c.push_fielded.new.out.items (branch_code Q env d (under_position c.loop-c.begun at) b) =
    subst (λ a. Pushed c.loop-c.out.items c.push_fielded.new.out.items (branch_code Q env a.site.local a.site.at b)) c.in_ok-arm.ensures.is z in
    record {
      is = arms_end Q env d k at c.args.part.first c.loop-c.c c.args.bs.now b c.loop-c.begun 0 c.loop-c.begun c.loop-c.out.items c.push_fielded.new.out.items c.args.out.now.items c.loop-c-test.true c.index-bs-c.is (omega arith) x (sym c.is_last_of.ensures.is ∙ c.if-is_last_of.true)
          (chain d false (kind_of Q env d k c.args.part.first (branches_of c.args.bs.now)) none at) c.loop-c.invariant.pushed;
    }

pub push_told-returns-then-is_last_of-clause-left : goal.push_told-returns-then-is_last_of-clause-left
push_told-returns-then-is_last_of-clause-left t c =
    let b = c.index-bs-c.result in
    let k = c.args.part.kind in
    let all = reverse c.loop-c.marks.items in
    let last = last_is k b.binders (branches_of (drop (c.loop-c.c + 1) c.args.bs.now)) (sym c.is_last_of.ensures.is ∙ c.if-is_last_of.true) in
    left_end (kind_marks k) (kind_marks_step k) c.args.bs.now c.loop-c.c b c.loop-c-test.true c.index-bs-c.is all c.loop-c.invariant.marked (reverse c.push_fielded.new.marks.items) (no_kind_marks k (branches_of (drop (c.loop-c.c + 1) c.args.bs.now)) last.1)
    (c.in_ok-push_fielded.ensures.left ∙ ap (λ ms. drop (length ms) all) (sym (kind_branch_marks k b.binders b.body last.0)))
    ∙ c.loop-c.invariant.left

-- a match, and its tests
pub push_op-returns-in_ok-push-in-Case-clause-pushed : goal.push_op-returns-in_ok-push-in-Case-clause-pushed
push_op-returns-in_ok-push-in-Case-clause-pushed t c =
    let Q = c.args.p.now in
    let env = reverse c.args.places.now.items in
    let d = c.args.site.local in
    let at = c.args.site.at in
    let o0 = c.args.out.now.items in
    let o1 = c.push_atom-in-Case.new.out.items in
    let o2 = c.push-in-Case.new.out.items in
    let o3 = c.push_branches.new.out.items in
    let x : Pushed o0 o1 (atom env c.in-Case.a) = subst (λ zs. Pushed o0 o1 (atom (reverse zs) c.in-Case.a)) c.as_slice-in-Case.ensures.value c.in_ok-push_atom-in-Case.ensures.pushed in
    on_ok_weaker c.push_branches.result
    (λ y. subst (λ o. Pushed o0 o3 (op_code Q env d at (seen o))) (sym c.in-Case.is) (case_pushed Q env d at c.in-Case.a c.in-Case.bs o0 o1 o2 o3 x c.in_ok-push-in-Case.ensures.pushed y))
    c.push_branches.ensures.pushed

pub push_branches-returns-then-count_from-eq0-clause-pushed : goal.push_branches-returns-then-count_from-eq0-clause-pushed
push_branches-returns-then-count_from-eq0-clause-pushed t c =
    let Q = c.args.p.now in
    let env = reverse c.args.places.now.items in
    let d = c.args.site.local in
    let at = c.args.site.at in
    let o0 = c.args.out.now.items in
    let o1 = c.push_search.new.out.items in
    on_ok_weaker c.push_search.result
    (λ y. subst (λ bs. Pushed o0 o1 (branches_code Q env d at bs)) c.as_slice-items.ensures.is (one_kind Q env d at c.as_slice-items.result.now o0 o1 (sym c.count_from.ensures.is ∙ c.if-count_from-eq0.true) y))
    c.push_search.ensures.pushed

pub push_branches-returns-then-count_from-eq0-clause-left : goal.push_branches-returns-then-count_from-eq0-clause-left
push_branches-returns-then-count_from-eq0-clause-left t c =
    let all = reverse c.args.marks.now.items in
    let new = reverse c.push_search.new.marks.items in
    on_ok_weaker c.push_search.result
    (λ y. subst (λ bs. new ≡ drop (length (empty_marks bs ++ head_marks bs)) all) c.as_slice-items.ensures.is (bare_left (branches_of c.as_slice-items.result.now) all new (sym c.count_from.ensures.is ∙ c.if-count_from-eq0.true) y))
    c.push_search.ensures.left

pub push_branches-returns-then-count_from-lt-MANY_ALTERNATIVES-clause-pushed : goal.push_branches-returns-then-count_from-lt-MANY_ALTERNATIVES-clause-pushed
push_branches-returns-then-count_from-lt-MANY_ALTERNATIVES-clause-pushed t c =
    let Q = c.args.p.now in
    let env = reverse c.args.places.now.items in
    let d = c.args.site.local in
    let at = c.args.site.at in
    let o0 = c.args.out.now.items in
    let o1 = c.push_few_bare.new.out.items in
    on_ok_weaker c.push_few_bare.result
    (λ y. subst (λ bs. Pushed o0 o1 (branches_code Q env d at bs)) c.as_slice-items.ensures.is
    (few_bare Q env d at c.as_slice-items.result.now o0 o1 (λ z. omega (arith, z, c.count_from.ensures.is, c.if-count_from-eq0.false)) (omega (arith, c.count_from-2.ensures.is, c.if-count_from-lt-MANY_ALTERNATIVES.true)) y))
    c.push_few_bare.ensures.pushed

pub push_branches-returns-clause-pushed : goal.push_branches-returns-clause-pushed
push_branches-returns-clause-pushed t c =
    let Q = c.args.p.now in
    let env = reverse c.args.places.now.items in
    let d = c.args.site.local in
    let at = c.args.site.at in
    let o0 = c.args.out.now.items in
    let o1 = c.push_both_kinds.new.out.items in
    on_ok_weaker c.push_both_kinds.result
    (λ y. subst (λ bs. Pushed o0 o1 (branches_code Q env d at bs)) c.as_slice-items.ensures.is
    (both_kinds Q env d at c.as_slice-items.result.now o0 o1 (λ z. omega (arith, z, c.count_from.ensures.is, c.if-count_from-eq0.false)) (omega (arith, c.count_from-2.ensures.is, c.if-count_from-lt-MANY_ALTERNATIVES.false)) y))
    c.push_both_kinds.ensures.pushed

pub push_few_bare-returns-clause-pushed : goal.push_few_bare-returns-clause-pushed
push_few_bare-returns-clause-pushed t c =
    let Q = c.args.p.now in
    let bs = c.args.bs.now in
    let d = c.args.site.local in
    let o1 = c.push_tested.new.out.items in
    let o2 = c.push_search.new.out.items in
    let z = subst (λ zs. Pushed o1 o2 (search_code Q (reverse zs) d c.in_ok-at.at Fielded 0 most_rounds (branches_of bs))) c.in_ok-begun.ensures.same c.in_ok-push_search.ensures.pushed in
    let x = subst (λ a. Pushed o1 o2 (search_code Q (reverse c.args.places.now.items) d a Fielded 0 most_rounds (branches_of bs))) c.in_ok-at.ensures.is z in
    on_ok_weaker c.push_ends.result (λ y. few_pushed Q (reverse c.args.places.now.items) d c.args.site.at bs c.args.out.now.items o1 o2 c.push_ends.new.out.items c.in_ok-begun.begun c.in_ok-begun.ensures.pushed x y) c.push_ends.ensures.pushed

pub push_both_kinds-returns-clause-pushed : goal.push_both_kinds-returns-clause-pushed
push_both_kinds-returns-clause-pushed t c =
    let Q = c.args.p.now in
    let bs = c.args.bs.now in
    let d = c.args.site.local in
    let x = subst (λ zs. Pushed c.push.new.out.items c.push_search-2.new.out.items (search_code Q (reverse zs) d c.in_ok-at.at Fielded 0 most_rounds (branches_of bs))) c.in_ok-push_search.ensures.same c.in_ok-push_search-2.ensures.pushed in
    on_ok_weaker c.push-2.result
    (λ y. both_pushed Q (reverse c.args.places.now.items) d c.args.site.at bs c.in_ok-at.at c.args.out.now.items c.push_bare_test.new.out.items c.push_search.new.out.items c.push.new.out.items c.push_search-2.new.out.items c.push-2.new.out.items c.in_ok-at.ensures.is
    c.in_ok-push_bare_test.ensures.pushed c.in_ok-push_search.ensures.pushed c.in_ok-push.ensures.pushed x y)
    c.push-2.ensures.pushed

-- a part, by halves or not
pub push_search-push_halves-requires : goal.push_search-push_halves-requires
push_search-push_halves-requires t c =
    let h = by_halves_is c.args.part.rounds (count_of c.args.part.kind (branches_of c.args.bs.now)) (sym c.by_halves.ensures.is ∙ c.if-by_halves.true) in
    let more : 0 < c.args.part.rounds = h.0 in
    let many : 6 ≤ count_of c.args.part.kind (branches_of c.args.bs.now) = h.1 in
    search (rules, more, many)

pub push_search-returns-clause-pushed : goal.push_search-returns-clause-pushed
push_search-returns-clause-pushed t c =
    let few = by_halves_not c.args.part.rounds (count_of c.args.part.kind (branches_of c.args.bs.now)) (sym c.by_halves.ensures.is ∙ c.if-by_halves.false) in
    on_ok_weaker c.push_alone.result
    (λ y. alone_is c.args.p.now (reverse c.args.places.now.items) c.args.part.site.local c.args.part.kind c.args.part.site.at c.args.part.first c.args.part.rounds c.args.bs.now c.args.out.now.items c.push_alone.new.out.items few y)
    c.push_alone.ensures.pushed

pub push_halves-push_search-requires : goal.push_halves-push_search-requires
push_halves-push_search-requires t c =
    let k = c.args.part.kind in
    let bs = c.args.bs.now in
    let i = c.place_of-place.result in
    let lighter = front_lighter i bs in
    let some = c.requires.more in
    let e : 64 * branches_weight (branches_of (take i bs)) + (2 * (c.args.part.rounds - 1) + 8) < 64 * branches_weight (branches_of bs) + (2 * c.args.part.rounds + 7) = omega (arith, lighter, some) in
    let m : Begins (kind_marks k (branches_of (take i bs))) (reverse c.args.marks.now.items) =
    first_part (kind_marks k (branches_of bs)) (kind_marks k (branches_of (take i bs))) (kind_marks k (branches_of (drop i bs))) (reverse c.args.marks.now.items) (kind_marks_halves k i bs) c.requires.marked in
    search (rules, e, m)

pub push_halves-push_search-requires-2 : goal.push_halves-push_search-requires-2
push_halves-push_search-requires-2 t c =
    let k = c.args.part.kind in
    let bs = c.args.bs.now in
    let i = c.place_of-place.result in
    let behind = c.branches_from-behind.result.now in
    let lighter = back_lighter i bs in
    let same = ap (λ (xs : List LiftedBranch). branches_weight (branches_of xs)) c.branches_from-behind.ensures.is in
    let some = c.requires.more in
    let e : 64 * branches_weight (branches_of behind) + (2 * (c.args.part.rounds - 1) + 8) < 64 * branches_weight (branches_of bs) + (2 * c.args.part.rounds + 7) = omega (arith, lighter, same, some) in
    let m0 : Begins (kind_marks k (branches_of (drop i bs))) (reverse c.push_search.new.marks.items) =
    second_part (kind_marks k (branches_of bs)) (kind_marks k (branches_of (take i bs))) (kind_marks k (branches_of (drop i bs))) (reverse c.args.marks.now.items) (kind_marks_halves k i bs) c.requires.marked (reverse c.push_search.new.marks.items) c.in_ok-push_search.ensures.left in
    let m : Begins (kind_marks k (branches_of behind)) (reverse c.push_search.new.marks.items) = subst (λ xs. Begins (kind_marks k (branches_of xs)) (reverse c.push_search.new.marks.items)) (sym c.branches_from-behind.ensures.is) m0 in
    search (rules, e, m)

pub push_halves-returns-clause-pushed : goal.push_halves-returns-clause-pushed
push_halves-returns-clause-pushed t c =
    let Q = c.args.p.now in
    let k = c.args.part.kind in
    let bs = c.args.bs.now in
    let d = c.args.part.site.local in
    let i = c.place_of-place.result in
    let left = c.args.part.rounds - 1 in
    let o3 = c.push.new.out.items in
    let o4 = c.push_search-2.new.out.items in
    let half : count_of k (branches_of (take i bs)) ≡ count_of k (branches_of bs) / 2 = c.place_of-place.ensures.before ∙ ap (λ (n : ℕ). n / 2) c.count_from-half.ensures.is in
    let es : c.in-Some.second ≡ c.args.part.first + i = search rules in
    let some = c.requires.more in
    let er : c.args.part.rounds ≡ suc left = omega (arith, some) in
    let z = subst (λ zs. Pushed o3 o4 (search_code Q (reverse zs) d c.in_ok-at.at k c.in-Some.second left (branches_of c.branches_from-behind.result.now))) c.in_ok-push_search.ensures.same c.in_ok-push_search-2.ensures.pushed in
    let x = subst (λ xs. Pushed o3 o4 (search_code Q (reverse c.args.places.now.items) d c.in_ok-at.at k c.in-Some.second left (branches_of xs))) c.branches_from-behind.ensures.is z in
    on_ok_weaker c.push-2.result
    (λ y. halves_pushed Q (reverse c.args.places.now.items) d k c.args.part.site.at c.args.part.first c.args.part.rounds bs i c.in-Some.second left c.in_ok-at.at c.requires.many half c.place_of-place.ensures.here es er c.in_ok-at.ensures.is c.args.out.now.items c.push_below_test.new.out.items
    c.push_search.new.out.items o3 o4 c.push-2.new.out.items c.in_ok-push_below_test.ensures.pushed c.in_ok-push_search.ensures.pushed c.in_ok-push.ensures.pushed x y)
    c.push-2.ensures.pushed

pub push_halves-returns-clause-left : goal.push_halves-returns-clause-left
push_halves-returns-clause-left t c =
    let k = c.args.part.kind in
    let bs = c.args.bs.now in
    let i = c.place_of-place.result in
    let last = reverse c.push_search-2.new.marks.items in
    let new = reverse c.push_search.new.marks.items in
    let x = subst (λ xs. last ≡ drop (length (kind_marks k (branches_of xs))) new) c.branches_from-behind.ensures.is c.in_ok-push_search-2.ensures.left in
    on_ok_weaker c.push-2.result
    (λ y. both_parts (kind_marks k (branches_of bs)) (kind_marks k (branches_of (take i bs))) (kind_marks k (branches_of (drop i bs))) (reverse c.args.marks.now.items) (kind_marks_halves k i bs) c.requires.marked new c.in_ok-push_search.ensures.left last x)
    c.push-2.ensures.pushed

-- a branch, whose field was moved or not
pub push_fielded-returns-clause-pushed : goal.push_fielded-returns-clause-pushed
push_fielded-returns-clause-pushed t c =
    let next : c.in-Some.local ≡ c.args.site.local + 1 = search rules in
    branch_pushed c.args.p.now (reverse c.args.places.now.items) (reverse c.push_branch_places.new.places.items) c.args.site.local c.in-Some.local c.args.site.at c.args.b.now c.take_field_mark-moved.result c.args.out.now.items c.push_moved_field.new.out.items c.push_block.new.out.items
    c.take_field_mark-moved.ensures.is c.in_ok-push_branch_places.ensures.is next c.in_ok-push_moved_field.ensures.pushed c.in_ok-push_block.ensures.pushed

pub push_fielded-returns-clause-left : goal.push_fielded-returns-clause-left
push_fielded-returns-clause-left t c = c.in_ok-push_block.ensures.left ∙ c.take_field_mark-moved.ensures.left
