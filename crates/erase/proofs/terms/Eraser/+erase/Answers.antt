use Rattle.std.proofs.Common.{rules, arith, ◌<◌, ◌≤◌, ◌∙◌, length, min, sym, ap, subst}
use Rattle.trees.specs.Measures.{depth, depth_trees}
use Rattle.pc_terms.specs.Lists.{arms_of, types_of, bodies_of, rargs_of}
use Rattle.pc_terms.specs.Formed.{EachTerm}
use Rattle.pc_terms.specs.Syntax.{Lambda, Fix}
use Rattle.pc_rules.specs.Stops.{stop_of}
use Rattle.pc_rules.specs.WellCounted.{IsCountedNode, AreCountedConstructors}
use Rattle.std.proofs.lemmas.Result.{err_from_is_err_and}
use Rattle.pc_rules.specs.Entailment.{test_of}
use Rattle.pc_rules.proofs.FairTyping.{inferring_fair}
use Rattle.pc_rules.proofs.Following.{follows_no_memory}
use Rattle.erase_rules.proofs.FairErasure.{kept_leaves}
use Rattle.erase.proofs.Runs.{by_memory, test_err, test_boxes, test_memory, test_goes, lambda_err, lambda_done, lambda_memory, lambda_within, let_err, let_memory, let_err_second, let_done, let_end_memory, let_within, app_err, app_err_second, app_done, app_end_memory, app_within}
use Rattle.calculus_rules.specs.Instances.{branch_entries}
use Rattle.calculus_rules.specs.Environment.{with_parameters}
use Rattle.box_terms.specs.BoxLists.{arms_of as box_arms}
use Rattle.erase.proofs.ArmRuns.{entries_leave, entries_err, entries_go, branch_context, arms_all, after_more, arms_stop, arms_memory, arms_next, arms_end, scrutinee_err, arms_err, case_done, case_memory, case_within, constructors_counted, arm_counted, args_counted}
use Rattle.box_terms.specs.declared.term.BoxDef.{BoxDef}
use Rattle.erase.proofs.BodyRuns.{entries_counted, bodies_all, after_body, rargs_next, bodies_stop, bodies_memory, bodies_next, bodies_end, fix_fault, fix_err, fix_done, fix_memory, fix_within, body_is_less, body_counted}
use Rattle.known_types.proofs.Longer.{one_longer, extends_longer}
use Rattle.erase.proofs.terms.Eraser.+erase.Goals as goal
use Rattle.erasable.proofs.TestRuns.{are_counted}
use Rattle.pc_terms.proofs.Depths.{body_in}

-- a term

pub erased-returns-in_err-evidence : goal.erased-returns-in_err-evidence
erased-returns-in_err-evidence g t c =
    let p = err_from_is_err_and c.from_residual.result c.from_residual.ensures.1 in
    record { follows = rw (p.1, p.2) (test_err c.args.env.now (inferring_fair c.args.env.now (test_of c.args.env.now) c.args.room) c.args.ctx.now c.args.t.now _ c.args.m.now c.evidence.new.m c.in_err-evidence.ensures.follows) }

pub erased-returns-in_ok-made-in-Some : goal.erased-returns-in_ok-made-in-Some
erased-returns-in_ok-made-in-Some g t c =
    let f = rw c.in-Some.is at c.in_ok-evidence.ensures.follows in
    record { follows = rw c.in_ok-made-in-Some.ensures.ok (test_boxes c.args.env.now (inferring_fair c.args.env.now (test_of c.args.env.now) c.args.room) c.args.ctx.now c.args.t.now _ c.args.m.now c.evidence.new.m f) }

pub erased-returns-in_err-made-in-Some : goal.erased-returns-in_err-made-in-Some
erased-returns-in_err-made-in-Some g t c =
    record {
      follows = by_memory _ _ _ c.args.m.now c.evidence.new.m c.in_err-made-in-Some.ensures.only_memory c.from_residual-in_err-made-in-Some.ensures.1
          (test_memory c.args.env.now (inferring_fair c.args.env.now (test_of c.args.env.now) c.args.room) c.args.ctx.now c.args.t.now c.in_ok-evidence.evidence c.args.m.now c.evidence.new.m c.in_ok-evidence.ensures.follows);
    }

pub erased-returns-in-None : goal.erased-returns-in-None
erased-returns-in-None g t c =
    let f = rw c.in-None.is at c.in_ok-evidence.ensures.follows in
    record { follows = test_goes c.args.env.now (inferring_fair c.args.env.now (test_of c.args.env.now) c.args.room) c.args.ctx.now c.args.t.now _ c.args.m.now c.evidence.new.m c.kept.new.m f c.kept.ensures.follows }

-- a lambda

pub lambda-returns-in_err-ty : goal.lambda-returns-in_err-ty
lambda-returns-in_err-ty g t c =
    record {
      follows = follows_no_memory _ (stop_of c.in_err-ty.field-0.0) _ c.args.m.now (ap stop_of c.in_err-ty.ensures.only_memory) c.from_residual.ensures.1
          (kept_leaves c.args.env.now _ (inferring_fair c.args.env.now (test_of c.args.env.now) c.args.room) c.args.ctx.now (Lambda c.args.ty.now c.args.body.now) c.args.m.now.account);
    }

pub lambda-returns-in_err-inner : goal.lambda-returns-in_err-inner
lambda-returns-in_err-inner g t c =
    record {
      follows = follows_no_memory _ _ _ c.args.m.now c.in_err-inner.ensures.only_memory c.from_residual-in_err-inner.ensures.1
          (kept_leaves c.args.env.now _ (inferring_fair c.args.env.now (test_of c.args.env.now) c.args.room) c.args.ctx.now (Lambda c.args.ty.now c.args.body.now) c.args.m.now.account);
    }

pub lambda-returns-in_err-body : goal.lambda-returns-in_err-body
lambda-returns-in_err-body g t c =
    let p = err_from_is_err_and c.from_residual-in_err-body.result c.from_residual-in_err-body.ensures.1 in
    let f = rw (c.in_ok-inner.ensures.longer, c.in_ok-ty.ensures.ok) at c.in_err-body.ensures.follows in
    record { follows = rw (p.1, p.2) (lambda_err c.args.env.now (inferring_fair c.args.env.now (test_of c.args.env.now) c.args.room) c.args.ctx.now c.args.ty.now c.args.body.now _ c.args.m.now c.erased.new.m f) }

pub lambda-made-requires : goal.lambda-made-requires
lambda-made-requires g t c =
    let f = rw (c.in_ok-inner.ensures.longer, c.in_ok-ty.ensures.ok) at c.in_ok-body.ensures.follows in
    record { within = lambda_within c.args.env.now (inferring_fair c.args.env.now (test_of c.args.env.now) c.args.room) c.args.ctx.now c.args.ty.now c.args.body.now c.in_ok-body.body c.args.m.now c.erased.new.m f c.requires.within }

pub lambda-returns-in_err-made : goal.lambda-returns-in_err-made
lambda-returns-in_err-made g t c =
    let f = rw (c.in_ok-inner.ensures.longer, c.in_ok-ty.ensures.ok) at c.in_ok-body.ensures.follows in
    record {
      follows = by_memory _ _ _ c.args.m.now c.erased.new.m c.in_err-made.ensures.only_memory c.from_residual-in_err-made.ensures.1
          (lambda_memory c.args.env.now (inferring_fair c.args.env.now (test_of c.args.env.now) c.args.room) c.args.ctx.now c.args.ty.now c.args.body.now c.in_ok-body.body c.args.m.now c.erased.new.m f);
    }

pub lambda-returns : goal.lambda-returns
lambda-returns g t c =
    let f = rw (c.in_ok-inner.ensures.longer, c.in_ok-ty.ensures.ok) at c.in_ok-body.ensures.follows in
    record { follows = rw c.in_ok-made.ensures.ok (lambda_done c.args.env.now (inferring_fair c.args.env.now (test_of c.args.env.now) c.args.room) c.args.ctx.now c.args.ty.now c.args.body.now c.in_ok-body.body c.args.m.now c.erased.new.m f) }

-- a let

pub let_in-returns-in_err-first : goal.let_in-returns-in_err-first
let_in-returns-in_err-first g t c =
    let p = err_from_is_err_and c.from_residual.result c.from_residual.ensures.1 in
    record { follows = rw (p.1, p.2) (let_err c.args.env.now (inferring_fair c.args.env.now (test_of c.args.env.now) c.args.room) c.args.ctx.now c.args.value.now c.args.ty.now c.args.body.now _ c.args.m.now c.erased.new.m c.in_err-first.ensures.follows) }

pub let_in-returns-in_err-value : goal.let_in-returns-in_err-value
let_in-returns-in_err-value g t c =
    record {
      follows = by_memory _ (stop_of c.in_err-value.field-0.0) _ c.args.m.now c.erased.new.m (ap stop_of c.in_err-value.ensures.only_memory) c.from_residual-in_err-value.ensures.1
          (let_memory c.args.env.now (inferring_fair c.args.env.now (test_of c.args.env.now) c.args.room) c.args.ctx.now c.args.value.now c.args.ty.now c.args.body.now c.in_ok-first.first c.args.m.now c.erased.new.m c.in_ok-first.ensures.follows);
    }

pub let_in-returns-in_err-ty : goal.let_in-returns-in_err-ty
let_in-returns-in_err-ty g t c =
    record {
      follows = by_memory _ (stop_of c.in_err-ty.field-0.0) _ c.args.m.now c.erased.new.m (ap stop_of c.in_err-ty.ensures.only_memory) c.from_residual-in_err-ty.ensures.1
          (let_memory c.args.env.now (inferring_fair c.args.env.now (test_of c.args.env.now) c.args.room) c.args.ctx.now c.args.value.now c.args.ty.now c.args.body.now c.in_ok-first.first c.args.m.now c.erased.new.m c.in_ok-first.ensures.follows);
    }

pub let_in-returns-in_err-inner : goal.let_in-returns-in_err-inner
let_in-returns-in_err-inner g t c =
    record {
      follows = by_memory _ _ _ c.args.m.now c.erased.new.m c.in_err-inner.ensures.only_memory c.from_residual-in_err-inner.ensures.1
          (let_memory c.args.env.now (inferring_fair c.args.env.now (test_of c.args.env.now) c.args.room) c.args.ctx.now c.args.value.now c.args.ty.now c.args.body.now c.in_ok-first.first c.args.m.now c.erased.new.m c.in_ok-first.ensures.follows);
    }

pub let_in-returns-in_err-second : goal.let_in-returns-in_err-second
let_in-returns-in_err-second g t c =
    let p = err_from_is_err_and c.from_residual-in_err-second.result c.from_residual-in_err-second.ensures.1 in
    let f = rw (c.in_ok-inner.ensures.longer, c.in_ok-value.ensures.ok, c.in_ok-ty.ensures.ok) at c.in_err-second.ensures.follows in
    record {
      follows = rw (p.1, p.2)
          (let_err_second c.args.env.now (inferring_fair c.args.env.now (test_of c.args.env.now) c.args.room) c.args.ctx.now c.args.value.now c.args.ty.now c.args.body.now c.in_ok-first.first c.args.m.now c.erased.new.m c.in_ok-first.ensures.follows _ c.erased-2.new.m f);
    }

pub let_in-made-requires : goal.let_in-made-requires
let_in-made-requires g t c =
    let f = rw (c.in_ok-inner.ensures.longer, c.in_ok-value.ensures.ok, c.in_ok-ty.ensures.ok) at c.in_ok-second.ensures.follows in
    record {
      within = let_within c.args.env.now (inferring_fair c.args.env.now (test_of c.args.env.now) c.args.room) c.args.ctx.now c.args.value.now c.args.ty.now c.args.body.now c.in_ok-first.first c.args.m.now c.erased.new.m c.in_ok-first.ensures.follows c.in_ok-second.second c.erased-2.new.m f
          c.requires.within;
    }

pub let_in-returns-in_err-made : goal.let_in-returns-in_err-made
let_in-returns-in_err-made g t c =
    let f = rw (c.in_ok-inner.ensures.longer, c.in_ok-value.ensures.ok, c.in_ok-ty.ensures.ok) at c.in_ok-second.ensures.follows in
    record {
      follows = by_memory _ _ _ c.args.m.now c.erased-2.new.m c.in_err-made.ensures.only_memory c.from_residual-in_err-made.ensures.1
          (let_end_memory c.args.env.now (inferring_fair c.args.env.now (test_of c.args.env.now) c.args.room) c.args.ctx.now c.args.value.now c.args.ty.now c.args.body.now c.in_ok-first.first c.args.m.now c.erased.new.m
          c.in_ok-first.ensures.follows c.in_ok-second.second c.erased-2.new.m f);
    }

pub let_in-returns : goal.let_in-returns
let_in-returns g t c =
    let f = rw (c.in_ok-inner.ensures.longer, c.in_ok-value.ensures.ok, c.in_ok-ty.ensures.ok) at c.in_ok-second.ensures.follows in
    record {
      follows = rw c.in_ok-made.ensures.ok
          (let_done c.args.env.now (inferring_fair c.args.env.now (test_of c.args.env.now) c.args.room) c.args.ctx.now c.args.value.now c.args.ty.now c.args.body.now c.in_ok-first.first c.args.m.now c.erased.new.m c.in_ok-first.ensures.follows c.in_ok-second.second c.erased-2.new.m f);
    }

-- an application

pub application-returns-in_err-first : goal.application-returns-in_err-first
application-returns-in_err-first g t c =
    let p = err_from_is_err_and c.from_residual.result c.from_residual.ensures.1 in
    record { follows = rw (p.1, p.2) (app_err c.args.env.now (inferring_fair c.args.env.now (test_of c.args.env.now) c.args.room) c.args.ctx.now c.args.function.now c.args.argument.now _ c.args.m.now c.erased.new.m c.in_err-first.ensures.follows) }

pub application-returns-in_err-second : goal.application-returns-in_err-second
application-returns-in_err-second g t c =
    let p = err_from_is_err_and c.from_residual-in_err-second.result c.from_residual-in_err-second.ensures.1 in
    record {
      follows = rw (p.1, p.2)
          (app_err_second c.args.env.now (inferring_fair c.args.env.now (test_of c.args.env.now) c.args.room) c.args.ctx.now c.args.function.now c.args.argument.now c.in_ok-first.first c.args.m.now c.erased.new.m c.in_ok-first.ensures.follows _ c.erased-2.new.m c.in_err-second.ensures.follows);
    }

pub application-made-requires : goal.application-made-requires
application-made-requires g t c =
    record {
      within = app_within c.args.env.now (inferring_fair c.args.env.now (test_of c.args.env.now) c.args.room) c.args.ctx.now c.args.function.now c.args.argument.now c.in_ok-first.first c.args.m.now c.erased.new.m c.in_ok-first.ensures.follows c.in_ok-second.second c.erased-2.new.m
          c.in_ok-second.ensures.follows c.requires.within;
    }

pub application-returns-in_err-made : goal.application-returns-in_err-made
application-returns-in_err-made g t c =
    record {
      follows = by_memory _ _ _ c.args.m.now c.erased-2.new.m c.in_err-made.ensures.only_memory c.from_residual-in_err-made.ensures.1
          (app_end_memory c.args.env.now (inferring_fair c.args.env.now (test_of c.args.env.now) c.args.room) c.args.ctx.now c.args.function.now c.args.argument.now c.in_ok-first.first c.args.m.now c.erased.new.m
          c.in_ok-first.ensures.follows c.in_ok-second.second c.erased-2.new.m c.in_ok-second.ensures.follows);
    }

pub application-returns : goal.application-returns
application-returns g t c =
    record {
      follows = rw c.in_ok-made.ensures.ok
          (app_done c.args.env.now (inferring_fair c.args.env.now (test_of c.args.env.now) c.args.room) c.args.ctx.now c.args.function.now c.args.argument.now c.in_ok-first.first c.args.m.now c.erased.new.m c.in_ok-first.ensures.follows c.in_ok-second.second c.erased-2.new.m
          c.in_ok-second.ensures.follows);
    }

-- a match

pub case-returns-in_err-scrut : goal.case-returns-in_err-scrut
case-returns-in_err-scrut g t c =
    let p = err_from_is_err_and c.from_residual.result c.from_residual.ensures.1 in
    record {
      follows = rw (p.1, p.2) (scrutinee_err c.args.env.now (inferring_fair c.args.env.now (test_of c.args.env.now) c.args.room) c.args.ctx.now c.args.x.now.family c.args.x.now.params c.args.x.now.binders c.args.x.now.ret c.args.x.now.scrut
          c.args.x.now.branches _ c.args.m.now c.erased.new.m c.in_err-scrut.ensures.follows);
    }

pub case-branches-requires : goal.case-branches-requires
case-branches-requires g t c =
    let k = c.in-Some.ensures.kept in
    let h = constructors_counted c.args.env.now c.requires.env.declarations c.args.x.now.family (with_parameters k.0 c.in-Some.family.now) k.1 in
    search (rules, h)

pub case-returns-in_err-branches : goal.case-returns-in_err-branches
case-returns-in_err-branches g t c =
    let k = c.in-Some.ensures.kept in
    let p = err_from_is_err_and c.from_residual-in_err-branches.result c.from_residual-in_err-branches.ensures.1 in
    record {
      follows = rw (p.1, p.2)
          (arms_err c.args.env.now (inferring_fair c.args.env.now (test_of c.args.env.now) c.args.room) c.args.ctx.now c.args.x.now.family c.args.x.now.params c.args.x.now.binders c.args.x.now.ret c.args.x.now.scrut c.args.x.now.branches c.in_ok-scrut.scrut
          c.args.m.now c.erased.new.m c.in_ok-scrut.ensures.follows (with_parameters k.0 c.in-Some.family.now) k.1 _ c.branches.new.m
          c.in_err-branches.ensures.follows);
    }

pub case-made-requires : goal.case-made-requires
case-made-requires g t c =
    let k = c.in-Some.ensures.kept in
    record {
      within = case_within c.args.env.now (inferring_fair c.args.env.now (test_of c.args.env.now) c.args.room) c.args.ctx.now c.args.x.now.family c.args.x.now.params c.args.x.now.binders c.args.x.now.ret c.args.x.now.scrut c.args.x.now.branches c.in_ok-scrut.scrut
          c.args.m.now c.erased.new.m c.in_ok-scrut.ensures.follows (with_parameters k.0 c.in-Some.family.now) k.1
          (box_arms c.in_ok-branches.branches) c.branches.new.m c.in_ok-branches.ensures.follows c.requires.within;
    }

pub case-returns-in_err-made : goal.case-returns-in_err-made
case-returns-in_err-made g t c =
    let k = c.in-Some.ensures.kept in
    record {
      follows = by_memory _ _ _ c.args.m.now c.branches.new.m c.in_err-made.ensures.only_memory c.from_residual-in_err-made.ensures.1
          (case_memory c.args.env.now (inferring_fair c.args.env.now (test_of c.args.env.now) c.args.room) c.args.ctx.now c.args.x.now.family c.args.x.now.params c.args.x.now.binders c.args.x.now.ret c.args.x.now.scrut c.args.x.now.branches c.in_ok-scrut.scrut
          c.args.m.now c.erased.new.m c.in_ok-scrut.ensures.follows (with_parameters k.0 c.in-Some.family.now) k.1 (box_arms c.in_ok-branches.branches) c.branches.new.m
          c.in_ok-branches.ensures.follows);
    }

pub case-returns : goal.case-returns
case-returns g t c =
    let k = c.in-Some.ensures.kept in
    record {
      follows = rw c.in_ok-made.ensures.ok
          (case_done c.args.env.now (inferring_fair c.args.env.now (test_of c.args.env.now) c.args.room) c.args.ctx.now c.args.x.now.family c.args.x.now.params c.args.x.now.binders c.args.x.now.ret c.args.x.now.scrut c.args.x.now.branches c.in_ok-scrut.scrut
          c.args.m.now c.erased.new.m c.in_ok-scrut.ensures.follows (with_parameters k.0 c.in-Some.family.now) k.1
          (box_arms c.in_ok-branches.branches) c.branches.new.m c.in_ok-branches.ensures.follows);
    }

-- branches

pub branches-branch-self-requires : goal.branches-branch-self-requires
branches-branch-self-requires g t c =
    let k : c.loop-i.i < length c.as_slice-listed.result.now = grind arith in
    let l : c.loop-i.i < length c.as_slice-xs.result.now = grind arith in
    let w : EachTerm (IsCountedNode c.args.env.now) (arms_of c.as_slice-xs.result.now) = subst (λ xs. EachTerm (IsCountedNode c.args.env.now) (arms_of xs)) (sym c.as_slice-xs.ensures.is) c.requires.counted.1.1.1.1.0 in
    let a = (arm_counted c.args.env.now c.as_slice-xs.result.now c.loop-i.i c.index-xs-i.result w l c.index-xs-i.is) in
    let d = subst (λ xs. depth c.index-xs-i.result.body ≤ depth_trees (arms_of xs)) c.as_slice-xs.ensures.is (body_in c.as_slice-xs.result.now c.loop-i.i c.index-xs-i.result l c.index-xs-i.is) in
    let u : AreCountedConstructors c.args.env.now c.as_slice-listed.result.now = subst (λ Cs. AreCountedConstructors c.args.env.now Cs) (sym c.as_slice-listed.ensures.is) c.requires.ctors in
    let q = args_counted c.args.env.now c.as_slice-listed.result.now c.loop-i.i c.index-listed-i.result u k c.index-listed-i.is in
    let p = are_counted c.args.env.now c.args.x.now.params c.requires.counted.1.0 in
    let n = c.loop-i.invariant.nest in
    search (rules, a, d, q, p, n, c.requires.nest, c.requires.env, c.requires.ctx)

pub branches-returns-in_err-body : goal.branches-returns-in_err-body
branches-returns-in_err-body g t c =
    let k : c.loop-i.i < length c.as_slice-listed.result.now = grind arith in
    let l : c.loop-i.i < length c.as_slice-xs.result.now = grind arith in
    let p = err_from_is_err_and c.from_residual.result c.from_residual.ensures.1 in
    let f = c.in_err-body.ensures.follows in
    let whole = c.loop-i.invariant.rest _ _ (arms_stop c.args.env.now (inferring_fair c.args.env.now (test_of c.args.env.now) c.args.room) c.args.ctx.now c.args.x.now.params c.as_slice-listed.result.now c.as_slice-xs.result.now c.loop-i.i c.index-listed-i.result
    c.index-xs-i.result k l c.index-listed-i.is c.index-xs-i.is _ c.loop-i.m c.branch-self.new.m f) in
    record { follows = rw (p.1, p.2) (rw (c.as_slice-listed.ensures.is, c.as_slice-xs.ensures.is) at whole) }

pub branches-returns-in_err-push : goal.branches-returns-in_err-push
branches-returns-in_err-push g t c =
    let k : c.loop-i.i < length c.as_slice-listed.result.now = grind arith in
    let l : c.loop-i.i < length c.as_slice-xs.result.now = grind arith in
    let p = err_from_is_err_and c.from_residual-in_err-push.result c.from_residual-in_err-push.ensures.1 in
    let f = c.in_ok-body.ensures.follows in
    let whole = c.loop-i.invariant.rest _ _ (arms_memory c.args.env.now (inferring_fair c.args.env.now (test_of c.args.env.now) c.args.room) c.args.ctx.now c.args.x.now.params c.as_slice-listed.result.now c.as_slice-xs.result.now c.loop-i.i c.index-listed-i.result
    c.index-xs-i.result k l c.index-listed-i.is c.index-xs-i.is _ c.loop-i.m c.branch-self.new.m f) in
    record { follows = rw (p.1, p.2, c.in_err-push.ensures.only_memory.0) (rw (c.as_slice-listed.ensures.is, c.as_slice-xs.ensures.is) at whole) }

pub branches-loop-i-preserved : goal.branches-loop-i-preserved
branches-loop-i-preserved g t c =
    let k : c.loop-i.i < length c.as_slice-listed.result.now = grind arith in
    let l : c.loop-i.i < length c.as_slice-xs.result.now = grind arith in
    let f = c.in_ok-body.ensures.follows in
    record {
      rest = λ r n x.
          let y = c.loop-i.invariant.rest _ n (arms_next c.args.env.now (inferring_fair c.args.env.now (test_of c.args.env.now) c.args.room) c.args.ctx.now c.args.x.now.params c.as_slice-listed.result.now c.as_slice-xs.result.now c.loop-i.i c.index-listed-i.result
          c.index-xs-i.result k l c.index-listed-i.is c.index-xs-i.is c.in_ok-body.body r c.loop-i.m c.branch-self.new.m n f x) in
          rw c.in_ok-push.ensures.ok (rw (after_more c.loop-i.out (record { binders = c.index-xs-i.result.binders; body = c.in_ok-body.body }) r) at y);
      nest = c.in_ok-body.ensures.follows.after.nest ∙ c.loop-i.invariant.nest;
    }

pub branches-returns : goal.branches-returns
branches-returns g t c =
    let h : min (length c.as_slice-listed.result.now) (length c.as_slice-xs.result.now) ≤ c.loop-i.i = search rules in
    let whole = c.loop-i.invariant.rest _ _ (arms_end c.args.env.now (inferring_fair c.args.env.now (test_of c.args.env.now) c.args.room) c.args.ctx.now c.args.x.now.params c.as_slice-listed.result.now c.as_slice-xs.result.now c.loop-i.i c.loop-i.m h) in
    record { follows = rw (arms_all c.loop-i.out, c.as_slice-listed.ensures.is, c.as_slice-xs.ensures.is) at whole }

-- a branch

pub branch-returns-in_err-entries : goal.branch-returns-in_err-entries
branch-returns-in_err-entries g t c =
    let p = err_from_is_err_and c.from_residual.result c.from_residual.ensures.1 in
    record { follows = rw (p.1, p.2) (entries_err c.args.env.now (inferring_fair c.args.env.now (test_of c.args.env.now) c.args.room) c.args.ctx.now (branch_entries c.args.ctor.now c.args.params.now) c.args.body.now c.in_err-entries.field-0.0 c.args.m.now c.in_err-entries.ensures.too_deep) }

pub branch-returns-in_err-inner : goal.branch-returns-in_err-inner
branch-returns-in_err-inner g t c =
    record {
      follows = follows_no_memory _ _ _ c.args.m.now c.in_err-inner.ensures.only_memory c.from_residual-in_err-inner.ensures.1
          (entries_leave c.args.env.now (inferring_fair c.args.env.now (test_of c.args.env.now) c.args.room) c.args.ctx.now (branch_entries c.args.ctor.now c.args.params.now) c.args.body.now c.args.m.now.account);
    }

pub branch-erased-requires : goal.branch-erased-requires
branch-erased-requires g t c =
    let h = branch_context c.args.env.now c.args.ctx.now c.args.ctor.now c.args.params.now c.requires.ctx c.requires.args c.requires.params in
    let e = c.in_ok-inner.ensures.longer in
    let e' = c.in_ok-entries.ensures.ok in
    let k = rw (← e', ← e) at h in
    search (rules, k)

pub branch-returns : goal.branch-returns
branch-returns g t c =
    let f = rw (c.in_ok-inner.ensures.longer, c.in_ok-entries.ensures.ok) at c.erased.ensures.follows in
    record { follows = entries_go c.args.env.now (inferring_fair c.args.env.now (test_of c.args.env.now) c.args.room) c.args.ctx.now (branch_entries c.args.ctor.now c.args.params.now) c.args.body.now _ c.args.m.now c.erased.new.m f }

-- a fixpoint

pub fixpoint-returns-in_err-entries : goal.fixpoint-returns-in_err-entries
fixpoint-returns-in_err-entries g t c =
    let p = err_from_is_err_and c.from_residual.result c.from_residual.ensures.1 in
    record { follows = rw (p.1, p.2) (fix_fault c.args.env.now (inferring_fair c.args.env.now (test_of c.args.env.now) c.args.room) c.args.ctx.now c.args.defs.now c.args.i c.in_err-entries.field-0.0 c.args.m.now c.in_err-entries.ensures.too_deep) }

pub fixpoint-returns-in_err-inner : goal.fixpoint-returns-in_err-inner
fixpoint-returns-in_err-inner g t c =
    let ds = c.args.defs.now in
    record {
      follows = follows_no_memory _ _ _ c.args.m.now c.in_err-inner.ensures.only_memory c.from_residual-in_err-inner.ensures.1
          (kept_leaves c.args.env.now _ (inferring_fair c.args.env.now (test_of c.args.env.now) c.args.room) c.args.ctx.now (Fix c.args.i (rargs_of ds) (types_of ds) (bodies_of (length ds) ds)) c.args.m.now.account);
    }

pub fixpoint-bodies-requires : goal.fixpoint-bodies-requires
fixpoint-bodies-requires g t c =
    let h = entries_counted c.args.env.now c.args.ctx.now (types_of c.args.defs.now) c.requires.ctx c.requires.counted.1.0 in
    let e = c.in_ok-inner.ensures.longer in
    let e' = c.in_ok-entries.ensures.ok in
    let k = rw (← e', ← e) at h in
    let b = c.requires.counted.1.1.0 in
    search (rules, k, b)

pub fixpoint-returns-in_err-bodies : goal.fixpoint-returns-in_err-bodies
fixpoint-returns-in_err-bodies g t c =
    let p = err_from_is_err_and c.from_residual-in_err-bodies.result c.from_residual-in_err-bodies.ensures.1 in
    let f = rw (c.in_ok-inner.ensures.longer, c.in_ok-entries.ensures.ok) at c.in_err-bodies.ensures.follows in
    record { follows = rw (p.1, p.2) (fix_err c.args.env.now (inferring_fair c.args.env.now (test_of c.args.env.now) c.args.room) c.args.ctx.now c.args.defs.now c.args.i _ c.args.m.now c.bodies.new.m f) }

pub fixpoint-made-requires : goal.fixpoint-made-requires
fixpoint-made-requires g t c =
    let f = rw (c.in_ok-inner.ensures.longer, c.in_ok-entries.ensures.ok) at c.in_ok-bodies.ensures.follows in
    record { within = fix_within c.args.env.now (inferring_fair c.args.env.now (test_of c.args.env.now) c.args.room) c.args.ctx.now c.args.defs.now c.args.i c.in_ok-bodies.bodies c.args.m.now c.bodies.new.m c.in_ok-bodies.ensures.rargs f c.requires.within }

pub fixpoint-returns-in_err-made : goal.fixpoint-returns-in_err-made
fixpoint-returns-in_err-made g t c =
    let f = rw (c.in_ok-inner.ensures.longer, c.in_ok-entries.ensures.ok) at c.in_ok-bodies.ensures.follows in
    record {
      follows = by_memory _ _ _ c.args.m.now c.bodies.new.m c.in_err-made.ensures.only_memory c.from_residual-in_err-made.ensures.1
          (fix_memory c.args.env.now (inferring_fair c.args.env.now (test_of c.args.env.now) c.args.room) c.args.ctx.now c.args.defs.now c.args.i c.in_ok-bodies.bodies c.args.m.now c.bodies.new.m c.in_ok-bodies.ensures.rargs f);
    }

pub fixpoint-returns : goal.fixpoint-returns
fixpoint-returns g t c =
    let f = rw (c.in_ok-inner.ensures.longer, c.in_ok-entries.ensures.ok) at c.in_ok-bodies.ensures.follows in
    record { follows = rw c.in_ok-made.ensures.ok (fix_done c.args.env.now (inferring_fair c.args.env.now (test_of c.args.env.now) c.args.room) c.args.ctx.now c.args.defs.now c.args.i c.in_ok-bodies.bodies c.args.m.now c.bodies.new.m c.in_ok-bodies.ensures.rargs f) }

-- definitions

pub bodies-erased-requires : goal.bodies-erased-requires
bodies-erased-requires g t c =
    let l : c.loop-i.i < length c.as_slice-items.result.now = grind arith in
    let w : EachTerm (IsCountedNode c.args.env.now) (bodies_of (length c.args.defs.now) c.as_slice-items.result.now) =
    subst (λ ds. EachTerm (IsCountedNode c.args.env.now) (bodies_of (length c.args.defs.now) ds)) (sym c.as_slice-items.ensures.is) c.requires.counted in
    let a = body_counted c.args.env.now (length c.args.defs.now) c.as_slice-items.result.now c.loop-i.i c.index-items-i.result w l c.index-items-i.is in
    let d = subst (λ ds. depth c.index-items-i.result.body ≤ depth_trees (bodies_of (length c.args.defs.now) ds)) c.as_slice-items.ensures.is
    (body_is_less (length c.args.defs.now) c.as_slice-items.result.now c.loop-i.i c.index-items-i.result l c.index-items-i.is) in
    let n = c.loop-i.invariant.nest in
    search (rules, a, d, n, c.requires.nest, c.requires.env, c.requires.ctx)

pub bodies-returns-in_err-body-clause-follows : goal.bodies-returns-in_err-body-clause-follows
bodies-returns-in_err-body-clause-follows g t c =
    let l : c.loop-i.i < length c.as_slice-items.result.now = grind arith in
    let p = err_from_is_err_and c.from_residual.result c.from_residual.ensures.1 in
    let whole = c.loop-i.invariant.rest _ _ (bodies_stop c.args.env.now (inferring_fair c.args.env.now (test_of c.args.env.now) c.args.room) c.args.ctx.now (length c.as_slice-items.result.now) c.as_slice-items.result.now c.loop-i.i c.index-items-i.result l
    c.index-items-i.is _ c.loop-i.m c.erased.new.m c.in_err-body.ensures.follows) in
    rw (p.1, p.2) (rw c.as_slice-items.ensures.is at whole)

pub bodies-returns-in_err-push-clause-follows : goal.bodies-returns-in_err-push-clause-follows
bodies-returns-in_err-push-clause-follows g t c =
    let l : c.loop-i.i < length c.as_slice-items.result.now = grind arith in
    let p = err_from_is_err_and c.from_residual-in_err-push.result c.from_residual-in_err-push.ensures.1 in
    let whole = c.loop-i.invariant.rest _ _ (bodies_memory c.args.env.now (inferring_fair c.args.env.now (test_of c.args.env.now) c.args.room) c.args.ctx.now (length c.as_slice-items.result.now) c.as_slice-items.result.now c.loop-i.i c.index-items-i.result l
    c.index-items-i.is c.in_ok-body.body c.loop-i.m c.erased.new.m c.in_ok-body.ensures.follows) in
    rw (p.1, p.2, c.in_err-push.ensures.only_memory.0) (rw c.as_slice-items.ensures.is at whole)

pub bodies-loop-i-preserved : goal.bodies-loop-i-preserved
bodies-loop-i-preserved g t c =
    let l : c.loop-i.i < length c.as_slice-items.result.now = grind arith in
    let b : BoxDef = record { body = c.in_ok-body.body; rarg = c.index-items-i.result.rarg } in
    record {
      rest = λ r n x.
          let y = c.loop-i.invariant.rest _ n (bodies_next c.args.env.now (inferring_fair c.args.env.now (test_of c.args.env.now) c.args.room) c.args.ctx.now (length c.as_slice-items.result.now) c.as_slice-items.result.now c.loop-i.i c.index-items-i.result l
          c.index-items-i.is c.in_ok-body.body r c.loop-i.m c.erased.new.m n c.in_ok-body.ensures.follows x) in
          rw c.in_ok-push.ensures.ok (rw (after_body (length c.as_slice-items.result.now) c.loop-i.out b r) at y);
      rargs = rw c.in_ok-push.ensures.ok (rargs_next c.as_slice-items.result.now c.loop-i.i c.index-items-i.result c.loop-i.out c.in_ok-body.body l c.index-items-i.is c.loop-i.invariant.rargs);
      nest = c.in_ok-body.ensures.follows.after.nest ∙ c.loop-i.invariant.nest;
    }

pub bodies-returns-clause-follows : goal.bodies-returns-clause-follows
bodies-returns-clause-follows g t c =
    let h : length c.as_slice-items.result.now ≤ c.loop-i.i = search rules in
    let whole = c.loop-i.invariant.rest _ _ (bodies_end c.args.env.now (inferring_fair c.args.env.now (test_of c.args.env.now) c.args.room) c.args.ctx.now (length c.as_slice-items.result.now) c.as_slice-items.result.now c.loop-i.i c.loop-i.m h) in
    rw (bodies_all (length c.as_slice-items.result.now) c.loop-i.out, c.as_slice-items.ensures.is) at whole

-- sites of longer contexts

pub lambda-deeper-within-requires-clause-longer : goal.lambda-deeper-within-requires-clause-longer
lambda-deeper-within-requires-clause-longer g t c = one_longer _ _ _ c.in_ok-inner.ensures.longer

pub let_in-deeper-within-requires-clause-longer : goal.let_in-deeper-within-requires-clause-longer
let_in-deeper-within-requires-clause-longer g t c = one_longer _ _ _ c.in_ok-inner.ensures.longer

pub branch-deeper-within-requires-clause-longer : goal.branch-deeper-within-requires-clause-longer
branch-deeper-within-requires-clause-longer g t c = extends_longer _ _ c.in_ok-entries.entries c.in_ok-inner.ensures.longer

pub fixpoint-deeper-within-requires-clause-longer : goal.fixpoint-deeper-within-requires-clause-longer
fixpoint-deeper-within-requires-clause-longer g t c = extends_longer _ _ c.in_ok-entries.entries c.in_ok-inner.ensures.longer
