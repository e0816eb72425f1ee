use Rattle.std.proofs.Common.{rules, ◌≡◌, inl, inr, ◌<◌, ◌≤◌, ◌-◌, length, refl, arith}
use Rattle.trees.specs.Tree.{terms_of}
use Rattle.trees.specs.Measures.{depth, depth_trees}
use Rattle.std.proofs.lemmas.Result.{err_from_is_err_and}
use Rattle.trees.specs.Substitution.{walk}
use Rattle.pc_terms.specs.Lists.{arms_of, depth_defs, walk_branch, walk_def}
use Rattle.reduce_machine.proofs.Limited.{term_under, arm_under, def_under}
use Rattle.reduce_machine.specs.Reads.{stands_under}
use Rattle.reduce_machine.proofs.Standing.{item_ok, item_deep, item_beyond, past_ok}
use Rattle.pc_terms.proofs.Depths.{term_in, body_in, type_in, definition_in}
use Rattle.reduce_machine.proofs.reading.+reading.Goals as goal

pub read_terms-returns-in_err-t-clause-too_deep : goal.read_terms-returns-in_err-t-clause-too_deep
read_terms-returns-in_err-t-clause-too_deep t c =
    let p = err_from_is_err_and c.from_residual.result c.from_residual.ensures.1 in
    let lt : c.loop-t.t-index < length c.args.terms.now = grind arith in
    rw (p.1, p.2) (λ e. term_under c.args.at (walk (stands_under c.args.env.now.items) c.args.k) c.args.terms.now c.loop-t.t-index c.t-item.result (cc) lt (c.in_err-t.ensures.too_deep e))

pub read_branches-returns-in_err-body-clause-too_deep : goal.read_branches-returns-in_err-body-clause-too_deep
read_branches-returns-in_err-body-clause-too_deep t c =
    let p = err_from_is_err_and c.from_residual.result c.from_residual.ensures.1 in
    let lt : c.loop-b.b-index < length c.args.branches.now = grind arith in
    rw (p.1, p.2) (λ e. arm_under c.args.at (walk_branch (stands_under c.args.env.now.items) c.args.k) c.args.branches.now c.loop-b.b-index c.b-item.result (cc) lt (rw c.from.ensures at (c.in_err-body.ensures.too_deep e)))

pub read_defs-returns-in_err-ty-clause-too_deep : goal.read_defs-returns-in_err-ty-clause-too_deep
read_defs-returns-in_err-ty-clause-too_deep t c =
    let p = err_from_is_err_and c.from_residual.result c.from_residual.ensures.1 in
    let lt : c.loop-d.d-index < length c.args.defs.now = grind arith in
    rw (p.1, p.2) (λ e. def_under c.args.at (walk_def (stands_under c.args.env.now.items) c.args.k (length c.args.defs.now)) c.args.defs.now c.loop-d.d-index c.d-item.result (cc) lt (inl (c.in_err-ty.ensures.too_deep e)))

pub read_variable-returns-in_err-term-in-Item-clause-too_deep : goal.read_variable-returns-in_err-term-in-Item-clause-too_deep
read_variable-returns-in_err-term-in-Item-clause-too_deep t c =
    let p = err_from_is_err_and c.from_residual.result c.from_residual.ensures.1 in
    rw (p.1, p.2) (λ e. item_beyond c.args.at c.args.env.now.items c.args.k c.args.i (c.args.i - c.args.k) c.in-Item.item.now refl c.requires.above c.in-Item.ensures.found.0 (c.in_err-term-in-Item.ensures.too_deep e))

pub read_variable-returns-in_ok-term-in-Item-clause-ok : goal.read_variable-returns-in_ok-term-in-Item-clause-ok
read_variable-returns-in_ok-term-in-Item-clause-ok t c =
    item_ok c.args.env.now.items c.args.k c.args.i (c.args.i - c.args.k) c.in-Item.item.now c.in_ok-term-in-Item.term c.lift.result refl c.requires.above c.in-Item.ensures.found.0
    c.in_ok-term-in-Item.ensures.ok c.lift.ensures.parallel

pub read_variable-returns-in_ok-term-in-Item-clause-too_deep : goal.read_variable-returns-in_ok-term-in-Item-clause-too_deep
read_variable-returns-in_ok-term-in-Item-clause-too_deep t c =
    item_deep c.args.at c.args.env.now.items c.args.k c.args.i (c.args.i - c.args.k) c.in-Item.item.now c.in_ok-term-in-Item.term c.lift.result refl c.requires.above c.in-Item.ensures.found.0
    c.in_ok-term-in-Item.ensures.ok c.lift.ensures.too_deep

pub read_variable-returns-in-Past-clause-ok : goal.read_variable-returns-in-Past-clause-ok
read_variable-returns-in-Past-clause-ok t c =
    past_ok c.args.env.now.items c.args.k c.args.i (c.args.i - c.args.k) c.in-Past.j c.make.result refl c.requires.above c.in-Past.ensures.found c.make.ensures.ok

pub read_defs-returns-in_err-body-clause-too_deep : goal.read_defs-returns-in_err-body-clause-too_deep
read_defs-returns-in_err-body-clause-too_deep t c =
    let p = err_from_is_err_and c.from_residual-in_err-body.result c.from_residual-in_err-body.ensures.1 in
    let lt : c.loop-d.d-index < length c.args.defs.now = grind arith in
    let same : length c.as_slice-items.result.now ≡ length c.args.defs.now = cc in
    rw (p.1, p.2) (λ e. def_under c.args.at (walk_def (stands_under c.args.env.now.items) c.args.k (length c.args.defs.now)) c.args.defs.now c.loop-d.d-index c.d-item.result (cc) lt (inr (rw same at (c.in_err-body.ensures.too_deep e))))

pub read_terms-read_above-requires : goal.read_terms-read_above-requires
read_terms-read_above-requires t c =
    let lt : c.loop-t.t-index < length c.args.terms.now = grind arith in
    let falls : depth c.t-item.result ≤ depth_trees (terms_of c.args.terms.now) = term_in c.args.terms.now c.loop-t.t-index c.t-item.result lt (cc) in
    search (rules, falls)

pub read_branches-read_above-requires : goal.read_branches-read_above-requires
read_branches-read_above-requires t c =
    let lt : c.loop-b.b-index < length c.args.branches.now = grind arith in
    let falls : depth c.b-item.result.body ≤ depth_trees (arms_of c.args.branches.now) = body_in c.args.branches.now c.loop-b.b-index c.b-item.result lt (cc) in
    search (rules, falls)

pub read_defs-read_above-requires : goal.read_defs-read_above-requires
read_defs-read_above-requires t c =
    let lt : c.loop-d.d-index < length c.args.defs.now = grind arith in
    let falls : depth c.d-item.result.ty ≤ depth_defs c.args.defs.now = type_in c.args.defs.now c.loop-d.d-index c.d-item.result lt (cc) in
    search (rules, falls)

pub read_defs-read_above-requires-in-loop-d : goal.read_defs-read_above-requires-in-loop-d
read_defs-read_above-requires-in-loop-d t c =
    let lt : c.loop-d.d-index < length c.args.defs.now = grind arith in
    let falls : depth c.d-item.result.body ≤ depth_defs c.args.defs.now = definition_in c.args.defs.now c.loop-d.d-index c.d-item.result lt (cc) in
    search (rules, falls)
