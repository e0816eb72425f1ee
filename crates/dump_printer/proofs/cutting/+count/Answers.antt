use Rattle.std.proofs.Common.{rules, arith, refl, ◌≡◌, ◌≤◌, ◌<◌, ◌-◌, max, length, suc}
use Rattle.trees.specs.Tree.{terms_of}
use Rattle.trees.specs.Measures.{depth, depth_trees}
use Rattle.pc_terms.specs.Lists.{arms_of, depth_defs}
use Rattle.dump_printer.specs.Cut.{nodes_within}
use Rattle.dump_printer.proofs.Counts.{none_at, more_within, next_term, no_term, next_arm, no_arm, next_type, next_body, no_type, no_body}
use Rattle.dump_printer.proofs.TermTokens.{deep-term-at, deep-arm-at, deep-def-at}
use Rattle.dump_printer.proofs.cutting.+count.Goals as goal

pub count-returns-then-room-eq0 : goal.count-returns-then-room-eq0
count-returns-then-room-eq0 t c =
    let z : c.args.room ≡ 0 = grind arith in
    let n = none_at c.args.room c.args.t.now z in
    record { is = omega (arith, n, c.requires.few) }

pub count-returns : goal.count-returns
count-returns t c =
    let z : c.args.room ≡ suc (c.args.room - 1) = grind arith in
    let m = more_within c.args.room (c.args.room - 1) c.args.t.now z in
    let n = rw c.view.ensures.is at c.count_node.ensures.is in
    record { is = omega (arith, m, n) }

-- terms

pub count_terms-count-nodes-requires : goal.count_terms-count-nodes-requires
count_terms-count-nodes-requires t c =
    let l : c.loop-t.t-index < length c.args.ts.now = grind arith in
    let less : depth c.t-item.result ≤ depth_trees (terms_of c.args.ts.now) = deep-term-at c.args.ts.now c.args.ts.now c.loop-t.t-index c.t-item.result refl c.t-item.is l in
    (omega arith, c.loop-t.invariant.few)

pub count_terms-loop-t-preserved : goal.count_terms-loop-t-preserved
count_terms-loop-t-preserved t c =
    let l : c.loop-t.t-index < length c.args.ts.now = grind arith in
    let n = next_term (nodes_within c.args.room) c.args.ts.now c.loop-t.t-index c.t-item.result l c.t-item.is in
    let e = c.count-nodes.ensures.is in
    record { few = omega (arith, e); same = omega (arith, n, e, c.loop-t.invariant.same) }

pub count_terms-returns : goal.count_terms-returns
count_terms-returns t c =
    let l : length c.args.ts.now ≤ c.loop-t.t-index = grind arith in
    let n = no_term (nodes_within c.args.room) c.args.ts.now c.loop-t.t-index l in
    record { is = omega (arith, n, c.loop-t.invariant.few, c.loop-t.invariant.same) }

-- branches

pub count_branches-count-nodes-requires : goal.count_branches-count-nodes-requires
count_branches-count-nodes-requires t c =
    let l : c.loop-b.b-index < length c.args.bs.now = grind arith in
    let less : depth c.b-item.result.body ≤ depth_trees (arms_of c.args.bs.now) = deep-arm-at c.args.bs.now c.args.bs.now c.loop-b.b-index c.b-item.result refl c.b-item.is l in
    (omega arith, c.loop-b.invariant.few)

pub count_branches-loop-b-preserved : goal.count_branches-loop-b-preserved
count_branches-loop-b-preserved t c =
    let l : c.loop-b.b-index < length c.args.bs.now = grind arith in
    let n = next_arm (nodes_within c.args.room) c.args.bs.now c.loop-b.b-index c.b-item.result l c.b-item.is in
    let e = c.count-nodes.ensures.is in
    record { few = omega (arith, e); same = omega (arith, n, e, c.loop-b.invariant.same) }

pub count_branches-returns : goal.count_branches-returns
count_branches-returns t c =
    let l : length c.args.bs.now ≤ c.loop-b.b-index = grind arith in
    let n = no_arm (nodes_within c.args.room) c.args.bs.now c.loop-b.b-index l in
    record { is = omega (arith, n, c.loop-b.invariant.few, c.loop-b.invariant.same) }

-- definitions

pub count_definitions-count-requires : goal.count_definitions-count-requires
count_definitions-count-requires t c =
    let l : c.loop-d.d-index < length c.args.ds.now = grind arith in
    let less : max (depth c.d-item.result.ty) (depth c.d-item.result.body) ≤ depth_defs c.args.ds.now = deep-def-at c.args.ds.now c.args.ds.now c.loop-d.d-index c.d-item.result refl c.d-item.is l in
    (omega arith, c.loop-d.invariant.few)

pub count_definitions-count-nodes-requires : goal.count_definitions-count-nodes-requires
count_definitions-count-nodes-requires t c =
    let l : c.loop-d.d-index < length c.args.ds.now = grind arith in
    let less : max (depth c.d-item.result.ty) (depth c.d-item.result.body) ≤ depth_defs c.args.ds.now = deep-def-at c.args.ds.now c.args.ds.now c.loop-d.d-index c.d-item.result refl c.d-item.is l in
    (omega arith, omega (arith, c.count.ensures.is))

pub count_definitions-loop-d-preserved : goal.count_definitions-loop-d-preserved
count_definitions-loop-d-preserved t c =
    let l : c.loop-d.d-index < length c.args.ds.now = grind arith in
    let f = nodes_within c.args.room in
    let n = next_type f c.args.ds.now c.loop-d.d-index c.d-item.result l c.d-item.is in
    let k = next_body f (length c.args.ds.now) c.args.ds.now c.loop-d.d-index c.d-item.result l c.d-item.is in
    let d = c.count.ensures.is in
    let e = c.count-nodes.ensures.is in
    record { few = omega (arith, e); same = omega (arith, n, k, d, e, c.loop-d.invariant.same) }

pub count_definitions-returns : goal.count_definitions-returns
count_definitions-returns t c =
    let l : length c.args.ds.now ≤ c.loop-d.d-index = grind arith in
    let n = no_type (nodes_within c.args.room) c.args.ds.now c.loop-d.d-index l in
    let k = no_body (nodes_within c.args.room) (length c.args.ds.now) c.args.ds.now c.loop-d.d-index l in
    record { is = omega (arith, n, k, c.loop-d.invariant.few, c.loop-d.invariant.same) }
