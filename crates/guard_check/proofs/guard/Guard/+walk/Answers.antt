use Rattle.std.proofs.Common.{rules, arith, ◌≡◌, ◌≤◌, ◌<◌, ◌-◌, suc, length}
use Rattle.std.proofs.lemmas.Result.{err_from_is_err_and}
use Rattle.pc_rules.proofs.Following.{follows_bind, follows_err, follows_halted, follows_first_halted, follows_memory, follows_no_memory, follows_next}
use Rattle.pc_rules.proofs.Leaving.{leaving}
use Rattle.trees.specs.Tree.{terms_of}
use Rattle.trees.specs.Measures.{depth, depth_trees}
use Rattle.pc_terms.specs.Lists.{arms_of, rargs_of, types_of, bodies_of, depth_defs}
use Rattle.calculus_rules.specs.Guardedness.{Smaller}
use Rattle.guard_check.specs.Marks.{mark_of, values_in, marks_in}
use Rattle.pc_terms.proofs.Depths.{term_in, body_in, type_in, definition_in}
use Rattle.guard_check.proofs.WalkRuns.{walk_leaf, walk_in, follows_last, terms_next, terms_stop, terms_end, branches_next, branches_stop, branches_end, definitions_next, definitions_type, definitions_body, definitions_end, passed_next, passed_type, passed_body, passed_end, fix_smaller, fix_other, under_in, under_other, under_stops, under_last, under_more, app_stops, let_stops, let_type_stops, let_memory, under_last_memory, under_more_memory}
use Rattle.guard_check.proofs.guard.Guard.+walk.Goals as goal

-- under a binder

pub binder-returns-in_err-walk : goal.binder-returns-in_err-walk
binder-returns-in_err-walk g t c = record { follows = follows_first_halted _ _ _ _ _ _ c.from_residual.ensures.1 c.in_err-walk.ensures.follows (search leaving) }

pub binder-returns : goal.binder-returns
binder-returns g t c =
    let f = walk_in c.args.env.now c.args.recursive _ _ _ _ c.args.body.now _ _ _ c.in_ok-inner.ensures.values c.in_ok-inner.ensures.marks c.walk-2.ensures.follows in
    record { follows = follows_next _ _ _ _ _ _ c.in_ok-walk.ensures.follows (follows_last _ _ _ _ f) }

-- branches

pub branches-walk-requires : goal.branches-walk-requires
branches-walk-requires g t c κs within =
    let l : c.loop-place.place < length c.as_slice-branches.result.now = grind arith in
    let less : depth c.index-branches-place.result.body ≤ depth_trees (arms_of c.args.x.now.branches) =
    rw c.as_slice-branches.ensures.is at (body_in c.as_slice-branches.result.now c.loop-place.place c.index-branches-place.result l c.index-branches-place.is) in
    (omega arith, search rules)

pub branches-returns-in_err-walk : goal.branches-returns-in_err-walk
branches-returns-in_err-walk g t c =
    let l : c.loop-place.place < length c.as_slice-branches.result.now = grind arith in
    let p = err_from_is_err_and c.from_residual-in_err-walk.result c.from_residual-in_err-walk.ensures.1 in
    let f = walk_in c.args.env.now c.args.recursive _ _ _ _ c.index-branches-place.result.body _ _ _ c.in_ok-inner.ensures.values c.in_ok-inner.ensures.marks c.in_err-walk.ensures.follows in
    let whole = c.loop-place.invariant _ _ (branches_stop _ _ _ _ _ _ _ c.as_slice-branches.result.now c.loop-place.place c.index-branches-place.result _ c.loop-place.m c.walk.new.m l c.index-branches-place.is f) in
    record { follows = rw (p.1, p.2) (rw c.as_slice-branches.ensures.is at whole) }

pub branches-loop-place-preserved : goal.branches-loop-place-preserved
branches-loop-place-preserved g t c = λ r n x.
    let l : c.loop-place.place < length c.as_slice-branches.result.now = grind arith in
    let f = walk_in c.args.env.now c.args.recursive _ _ _ _ c.index-branches-place.result.body _ _ _ c.in_ok-inner.ensures.values c.in_ok-inner.ensures.marks c.in_ok-walk.ensures.follows in
    c.loop-place.invariant r n (branches_next _ _ _ _ _ _ _ c.as_slice-branches.result.now c.loop-place.place c.index-branches-place.result r c.loop-place.m c.walk.new.m n l c.index-branches-place.is f x)

pub branches-returns : goal.branches-returns
branches-returns g t c =
    let l : length c.as_slice-branches.result.now ≤ c.loop-place.place = grind arith in
    let whole = c.loop-place.invariant _ _ (branches_end _ _ _ _ _ _ _ c.as_slice-branches.result.now c.loop-place.place c.loop-place.m l) in
    record { follows = rw c.as_slice-branches.ensures.is at whole }

-- a match

pub case-returns-in_err-mark : goal.case-returns-in_err-mark
case-returns-in_err-mark g t c = record { follows = follows_halted _ _ _ _ _ _ c.from_residual.ensures.1 c.in_err-mark.ensures.follows (search leaving) }

pub case-returns-in_err-walk : goal.case-returns-in_err-walk
case-returns-in_err-walk g t c =
    record { follows = follows_bind _ _ _ _ _ _ _ c.in_ok-mark.ensures.follows (follows_halted _ _ _ _ _ _ c.from_residual-in_err-walk.ensures.1 c.in_err-walk.ensures.follows (search leaving)) }

pub case-returns-in_err-terms : goal.case-returns-in_err-terms
case-returns-in_err-terms g t c =
    record {
      follows = follows_bind _ _ _ _ _ _ _ c.in_ok-mark.ensures.follows (follows_bind _ _ _ _ _ _ _ c.in_ok-walk.ensures.follows
          (follows_halted _ _ _ _ _ _ c.from_residual-in_err-terms.ensures.1 (rw c.as_slice.ensures.is at c.in_err-terms.ensures.follows) (search leaving)));
    }

pub case-returns-in_err-walk-2 : goal.case-returns-in_err-walk-2
case-returns-in_err-walk-2 g t c =
    let p = err_from_is_err_and c.from_residual-in_err-walk-2.result c.from_residual-in_err-walk-2.ensures.1 in
    let ft = rw c.as_slice.ensures.is at c.in_ok-terms.ensures.follows in
    let fr = walk_in c.args.env.now c.args.recursive _ _ _ _ c.args.x.now.ret _ _ _ c.in_ok-inner.ensures.values c.in_ok-inner.ensures.marks c.in_err-walk-2.ensures.follows in
    record { follows = rw (p.1, p.2) (follows_bind _ _ _ _ _ _ _ c.in_ok-mark.ensures.follows (follows_bind _ _ _ _ _ _ _ c.in_ok-walk.ensures.follows (follows_bind _ _ _ _ _ _ _ ft (follows_err _ _ _ _ _ fr (search leaving))))) }

pub case-returns : goal.case-returns
case-returns g t c =
    let ft = rw c.as_slice.ensures.is at c.in_ok-terms.ensures.follows in
    let fr = walk_in c.args.env.now c.args.recursive _ _ _ _ c.args.x.now.ret _ _ _ c.in_ok-inner.ensures.values c.in_ok-inner.ensures.marks c.in_ok-walk-2.ensures.follows in
    let fb = rw c.opens.ensures.is at c.branches.ensures.follows in
    record { follows = follows_bind _ _ _ _ _ _ _ c.in_ok-mark.ensures.follows (follows_bind _ _ _ _ _ _ _ c.in_ok-walk.ensures.follows (follows_bind _ _ _ _ _ _ _ ft (follows_bind _ _ _ _ _ _ _ fr fb))) }

-- a fixpoint

pub definitions-returns-in_err-mark : goal.definitions-returns-in_err-mark
definitions-returns-in_err-mark g t c = record { follows = follows_halted _ _ _ _ _ _ c.from_residual.ensures.1 c.in_err-mark.ensures.follows (search leaving) }

pub definitions-returns-in-Smaller : goal.definitions-returns-in-Smaller
definitions-returns-in-Smaller g t c =
    let f = rw c.in-Smaller.is at c.in_ok-mark.ensures.follows in
    record { follows = follows_bind _ _ _ _ _ _ _ f (fix_smaller c.args.env.now c.args.recursive (values_in c.args.scope.now) (marks_in c.args.scope.now) (rargs_of c.args.defs.now) (types_of c.args.defs.now) (bodies_of (length c.args.defs.now) c.args.defs.now) _ _ _ c.passed.ensures.follows) }

pub definitions-returns : goal.definitions-returns
definitions-returns g t c =
    record { follows = follows_bind _ _ _ _ _ _ _ c.in_ok-mark.ensures.follows (fix_other c.args.env.now c.args.recursive (values_in c.args.scope.now) (marks_in c.args.scope.now) c.in_ok-mark.mark (rargs_of c.args.defs.now) (types_of c.args.defs.now) (bodies_of (length c.args.defs.now) c.args.defs.now) _ _ _ c.in_default.not-Smaller c.others.ensures.follows) }

-- definitions of a fixpoint whose recursive argument is not smaller

pub others-walk-requires : goal.others-walk-requires
others-walk-requires g t c κs within =
    let l : c.loop-def.def-index < length c.args.defs.now = grind arith in
    let less : depth c.def-item.result.ty ≤ depth_defs c.args.defs.now = type_in c.args.defs.now c.loop-def.def-index c.def-item.result l c.def-item.is in
    (omega arith, search rules)

pub others-returns-in_err-walk : goal.others-returns-in_err-walk
others-returns-in_err-walk g t c =
    let l : c.loop-def.def-index < length c.args.defs.now = grind arith in
    let p = err_from_is_err_and c.from_residual.result c.from_residual.ensures.1 in
    record { follows = rw (p.1, p.2) (c.loop-def.invariant _ _ (definitions_type _ _ _ _ (length c.args.defs.now) c.args.defs.now c.loop-def.def-index c.def-item.result l c.def-item.is _ c.loop-def.m c.walk.new.m c.in_err-walk.ensures.follows)) }

pub others-walk-requires-in-loop-def : goal.others-walk-requires-in-loop-def
others-walk-requires-in-loop-def g t c κs within =
    let l : c.loop-def.def-index < length c.args.defs.now = grind arith in
    let less : depth c.def-item.result.body ≤ depth_defs c.args.defs.now = definition_in c.args.defs.now c.loop-def.def-index c.def-item.result l c.def-item.is in
    (omega arith, search rules)

pub others-returns-in_err-walk-2 : goal.others-returns-in_err-walk-2
others-returns-in_err-walk-2 g t c =
    let l : c.loop-def.def-index < length c.args.defs.now = grind arith in
    let p = err_from_is_err_and c.from_residual-in_err-walk-2.result c.from_residual-in_err-walk-2.ensures.1 in
    let f = walk_in c.args.env.now c.args.recursive _ _ _ _ c.def-item.result.body _ _ _ c.requires.values c.requires.marks c.in_err-walk-2.ensures.follows in
    record { follows = rw (p.1, p.2) (c.loop-def.invariant _ _ (definitions_body _ _ _ _ (length c.args.defs.now) c.args.defs.now c.loop-def.def-index c.def-item.result l c.def-item.is _ c.loop-def.m c.walk.new.m c.walk-in-loop-def.new.m c.in_ok-walk.ensures.follows f)) }

pub others-loop-def-preserved : goal.others-loop-def-preserved
others-loop-def-preserved g t c = λ r n x.
    let l : c.loop-def.def-index < length c.args.defs.now = grind arith in
    let f = walk_in c.args.env.now c.args.recursive _ _ _ _ c.def-item.result.body _ _ _ c.requires.values c.requires.marks c.in_ok-walk-2.ensures.follows in
    c.loop-def.invariant r n (definitions_next _ _ _ _ (length c.args.defs.now) c.args.defs.now c.loop-def.def-index c.def-item.result l c.def-item.is r c.loop-def.m c.walk.new.m c.walk-in-loop-def.new.m n c.in_ok-walk.ensures.follows f x)

pub others-returns : goal.others-returns
others-returns g t c =
    let l : length c.args.defs.now ≤ c.loop-def.def-index = grind arith in
    record { follows = c.loop-def.invariant _ _ (definitions_end _ _ _ _ (length c.args.defs.now) c.args.defs.now c.loop-def.def-index c.loop-def.m l) }

-- definitions of a fixpoint whose recursive argument is smaller

pub passed-walk-requires : goal.passed-walk-requires
passed-walk-requires g t c κs within =
    let l : c.loop-def.def-index < length c.args.defs.now = grind arith in
    let less : depth c.def-item.result.ty ≤ depth_defs c.args.defs.now = type_in c.args.defs.now c.loop-def.def-index c.def-item.result l c.def-item.is in
    (omega arith, search rules)

pub passed-returns-in_err-walk : goal.passed-returns-in_err-walk
passed-returns-in_err-walk g t c =
    let l : c.loop-def.def-index < length c.args.defs.now = grind arith in
    let p = err_from_is_err_and c.from_residual.result c.from_residual.ensures.1 in
    record { follows = rw (p.1, p.2) (c.loop-def.invariant _ _ (passed_type _ _ _ _ (length c.args.defs.now) c.args.defs.now c.loop-def.def-index c.def-item.result l c.def-item.is _ c.loop-def.m c.walk.new.m c.in_err-walk.ensures.follows)) }

pub passed-under-requires : goal.passed-under-requires
passed-under-requires g t c κs within =
    let l : c.loop-def.def-index < length c.args.defs.now = grind arith in
    let less : depth c.def-item.result.body ≤ depth_defs c.args.defs.now = definition_in c.args.defs.now c.loop-def.def-index c.def-item.result l c.def-item.is in
    (omega arith, search rules)

pub passed-returns-in_err-under : goal.passed-returns-in_err-under
passed-returns-in_err-under g t c =
    let l : c.loop-def.def-index < length c.args.defs.now = grind arith in
    let p = err_from_is_err_and c.from_residual-in_err-under.result c.from_residual-in_err-under.ensures.1 in
    let f = under_in c.args.env.now c.args.recursive _ _ _ _ Smaller c.def-item.result.rarg c.def-item.result.body _ _ _ c.requires.values c.requires.marks c.in_err-under.ensures.follows in
    record { follows = rw (p.1, p.2) (c.loop-def.invariant _ _ (passed_body _ _ _ _ (length c.args.defs.now) c.args.defs.now c.loop-def.def-index c.def-item.result l c.def-item.is _ c.loop-def.m c.walk.new.m c.under.new.m c.in_ok-walk.ensures.follows f)) }

pub passed-loop-def-preserved : goal.passed-loop-def-preserved
passed-loop-def-preserved g t c = λ r n x.
    let l : c.loop-def.def-index < length c.args.defs.now = grind arith in
    let f = under_in c.args.env.now c.args.recursive _ _ _ _ Smaller c.def-item.result.rarg c.def-item.result.body _ _ _ c.requires.values c.requires.marks c.in_ok-under.ensures.follows in
    c.loop-def.invariant r n (passed_next _ _ _ _ (length c.args.defs.now) c.args.defs.now c.loop-def.def-index c.def-item.result l c.def-item.is r c.loop-def.m c.walk.new.m c.under.new.m n c.in_ok-walk.ensures.follows f x)

pub passed-returns : goal.passed-returns
passed-returns g t c =
    let l : length c.args.defs.now ≤ c.loop-def.def-index = grind arith in
    record { follows = c.loop-def.invariant _ _ (passed_end _ _ _ _ (length c.args.defs.now) c.args.defs.now c.loop-def.def-index c.loop-def.m l) }

-- a body under its lambdas

pub under-returns-in_default : goal.under-returns-in_default
under-returns-in_default g t c = record {
  follows = rw c.in_ok-found.ensures.ok
      (under_other c.args.env.now c.args.recursive (values_in c.args.scope.now) (marks_in c.args.scope.now) c.view.result.now (mark_of c.args.mark) c.args.t.now c.args.rarg c.args.m.now c.view.ensures.is c.in_default.not-Lambda);
}

pub under-returns-in_err-walk : goal.under-returns-in_err-walk
under-returns-in_err-walk g t c =
    let e = rw c.in-Lambda.is at c.view.ensures.is in
    let p = err_from_is_err_and c.from_residual-in_err-walk.result c.from_residual-in_err-walk.ensures.1 in
    record {
      follows = rw (← e, p.1, p.2) (under_stops c.args.env.now c.args.recursive (values_in c.args.scope.now) (marks_in c.args.scope.now) c.in-Lambda.domain c.in-Lambda.body (mark_of c.args.mark) c.args.rarg _ c.args.m.now c.walk.new.m c.in_err-walk.ensures.follows);
    }

pub under-returns-then-rarg-eq0 : goal.under-returns-then-rarg-eq0
under-returns-then-rarg-eq0 g t c =
    let e = rw c.in-Lambda.is at c.view.ensures.is in
    let f = walk_in c.args.env.now c.args.recursive _ _ _ _ c.in-Lambda.body _ _ _ c.in_ok-inner.ensures.values c.in_ok-inner.ensures.marks c.walk-then-rarg-eq0.ensures.follows in
    record {
      follows = rw (← e) (under_last c.args.env.now c.args.recursive (values_in c.args.scope.now) (marks_in c.args.scope.now) c.in-Lambda.domain c.in-Lambda.body (mark_of c.args.mark) c.args.rarg _ c.args.m.now c.walk.new.m c.walk-then-rarg-eq0.new.m c.if-rarg-eq0.true
          c.in_ok-walk.ensures.follows f);
    }

pub under-returns : goal.under-returns
under-returns g t c =
    let e = rw c.in-Lambda.is at c.view.ensures.is in
    let z : c.args.rarg ≡ suc (c.args.rarg - 1) = grind arith in
    let f = under_in c.args.env.now c.args.recursive _ _ _ _ (mark_of c.args.mark) (c.args.rarg - 1) c.in-Lambda.body _ c.walk.new.m c.under.new.m
    c.in_ok-inner-2.ensures.values c.in_ok-inner-2.ensures.marks c.under.ensures.follows in
    record {
      follows = rw (← e) (under_more c.args.env.now c.args.recursive (values_in c.args.scope.now) (marks_in c.args.scope.now) c.in-Lambda.domain c.in-Lambda.body (mark_of c.args.mark) c.args.rarg (c.args.rarg - 1) _ c.args.m.now c.walk.new.m c.under.new.m z
          c.in_ok-walk.ensures.follows f);
    }

-- terms

pub terms-walk-requires : goal.terms-walk-requires
terms-walk-requires g t c κs within =
    let l : c.loop-t.t-index < length c.args.ts.now = grind arith in
    let less : depth c.t-item.result ≤ depth_trees (terms_of c.args.ts.now) = term_in c.args.ts.now c.loop-t.t-index c.t-item.result l c.t-item.is in
    (omega arith, search rules)

pub terms-returns-in_err-walk : goal.terms-returns-in_err-walk
terms-returns-in_err-walk g t c =
    let l : c.loop-t.t-index < length c.args.ts.now = grind arith in
    let p = err_from_is_err_and c.from_residual.result c.from_residual.ensures.1 in
    record { follows = rw (p.1, p.2) (c.loop-t.invariant _ _ (terms_stop _ _ _ _ c.args.ts.now c.loop-t.t-index c.t-item.result l c.t-item.is _ c.loop-t.m c.walk.new.m c.in_err-walk.ensures.follows)) }

pub terms-loop-t-preserved : goal.terms-loop-t-preserved
terms-loop-t-preserved g t c = λ r n x.
    let l : c.loop-t.t-index < length c.args.ts.now = grind arith in
    c.loop-t.invariant r n (terms_next _ _ _ _ c.args.ts.now c.loop-t.t-index c.t-item.result l c.t-item.is r c.loop-t.m c.walk.new.m n c.in_ok-walk.ensures.follows x)

pub terms-returns : goal.terms-returns
terms-returns g t c =
    let l : length c.args.ts.now ≤ c.loop-t.t-index = grind arith in
    record { follows = c.loop-t.invariant _ _ (terms_end _ _ _ _ c.args.ts.now c.loop-t.t-index c.loop-t.m l) }

-- terms by their formers

pub walk_applied-returns-in_err-walk_applied-in-App : goal.walk_applied-returns-in_err-walk_applied-in-App
walk_applied-returns-in_err-walk_applied-in-App g t c =
    let e = rw c.in-App.is at c.view.ensures.is in
    let f = rw c.with.ensures.longer at c.in_err-walk_applied-in-App.ensures.follows in
    record { follows = rw (← e) (app_stops c.args.env.now c.args.recursive (values_in c.args.scope.now) (marks_in c.args.scope.now) c.args.args.now _ _ c.from_residual.ensures.1 c.in-App.f c.in-App.a _ _ f) }

pub walk_applied-returns-in_err-walk-in-LetIn : goal.walk_applied-returns-in_err-walk-in-LetIn
walk_applied-returns-in_err-walk-in-LetIn g t c =
    let e = rw c.in-LetIn.is at c.view.ensures.is in
    record { follows = rw (← e) (let_stops c.args.env.now c.args.recursive (values_in c.args.scope.now) (marks_in c.args.scope.now) c.args.args.now _ _ c.from_residual-in_err-walk-in-LetIn.ensures.1 c.in-LetIn.value c.in-LetIn.ty c.in-LetIn.body _ _ c.in_err-walk-in-LetIn.ensures.follows) }

pub walk_applied-returns-in_err-walk-in-LetIn-2 : goal.walk_applied-returns-in_err-walk-in-LetIn-2
walk_applied-returns-in_err-walk-in-LetIn-2 g t c =
    let e = rw c.in-LetIn.is at c.view.ensures.is in
    record { follows = rw (← e) (let_type_stops c.args.env.now c.args.recursive (values_in c.args.scope.now) (marks_in c.args.scope.now) c.args.args.now _ _ c.from_residual-in_err-walk-in-LetIn-2.ensures.1 c.in-LetIn.value c.in-LetIn.ty c.in-LetIn.body _ _ _ c.in_ok-walk-in-LetIn.ensures.follows c.in_err-walk-in-LetIn-2.ensures.follows) }

pub walk_applied-returns-in_ok-walk_applied-in-App : goal.walk_applied-returns-in_ok-walk_applied-in-App
walk_applied-returns-in_ok-walk_applied-in-App g t c =
    let e = rw c.in-App.is at c.view.ensures.is in
    let f = rw c.with.ensures.longer at c.in_ok-walk_applied-in-App.ensures.follows in
    record { follows = rw (← e) (follows_bind _ _ _ _ _ _ _ f c.walk.ensures.follows) }

pub walk_applied-returns-in-Prod : goal.walk_applied-returns-in-Prod
walk_applied-returns-in-Prod g t c =
    let e = rw c.in-Prod.is at c.view.ensures.is in
    record { follows = rw (← e) c.binder.ensures.follows }

pub walk_applied-returns-in-Lambda : goal.walk_applied-returns-in-Lambda
walk_applied-returns-in-Lambda g t c =
    let e = rw c.in-Lambda.is at c.view.ensures.is in
    record { follows = rw (← e) c.binder-in-Lambda.ensures.follows }

pub walk_applied-returns-in_ok-inner-in-LetIn : goal.walk_applied-returns-in_ok-inner-in-LetIn
walk_applied-returns-in_ok-inner-in-LetIn g t c =
    let e = rw c.in-LetIn.is at c.view.ensures.is in
    let f = walk_in c.args.env.now c.args.recursive _ _ _ _ c.in-LetIn.body _ _ _ c.in_ok-inner-in-LetIn.ensures.values c.in_ok-inner-in-LetIn.ensures.marks c.walk-in-LetIn-3.ensures.follows in
    record { follows = rw (← e) (follows_bind _ _ _ _ _ _ _ c.in_ok-walk-in-LetIn.ensures.follows (follows_bind _ _ _ _ _ _ _ c.in_ok-walk-in-LetIn-2.ensures.follows f)) }

pub walk_applied-returns-in-Case : goal.walk_applied-returns-in-Case
walk_applied-returns-in-Case g t c =
    let e = rw c.in-Case.is at c.view.ensures.is in
    record { follows = rw (← e) (rw c.get.ensures.is at c.case.ensures.follows) }

pub walk_applied-returns-in-Fix : goal.walk_applied-returns-in-Fix
walk_applied-returns-in-Fix g t c =
    let e = rw c.in-Fix.is at c.view.ensures.is in
    record { follows = rw (← e) (rw c.as_slice.ensures.is at c.definitions.ensures.follows) }

pub walk_applied-returns-in-Sort : goal.walk_applied-returns-in-Sort
walk_applied-returns-in-Sort g t c = record { follows = walk_leaf _ _ _ _ _ _ _ c.args.m.now c.view.ensures.is c.in-Sort.is }

-- where there is no memory for a scope

pub binder-returns-in_err-inner : goal.binder-returns-in_err-inner
binder-returns-in_err-inner g t c =
    record { follows = follows_next _ _ _ _ _ _ c.in_ok-walk.ensures.follows (follows_no_memory _ _ _ _ c.in_err-inner.ensures.only_memory c.from_residual-in_err-inner.ensures.1 (search leaving)) }

pub branches-returns-in_err-inner : goal.branches-returns-in_err-inner
branches-returns-in_err-inner g t c =
    let p = err_from_is_err_and c.from_residual.result c.from_residual.ensures.1 in
    let whole = c.loop-place.invariant _ _ (follows_memory _ c.loop-place.m (search leaving)) in
    record { follows = rw (p.1, p.2, c.in_err-inner.ensures.only_memory) (rw c.as_slice-branches.ensures.is at whole) }

pub definitions-returns-in_err-inner : goal.definitions-returns-in_err-inner
definitions-returns-in_err-inner g t c =
    record { follows = follows_bind _ _ _ _ _ _ _ c.in_ok-mark.ensures.follows (follows_no_memory _ _ _ _ c.in_err-inner.ensures.only_memory c.from_residual-in_err-inner.ensures.1 (search leaving)) }

pub case-returns-in_err-inner : goal.case-returns-in_err-inner
case-returns-in_err-inner g t c =
    let ft = rw c.as_slice.ensures.is at c.in_ok-terms.ensures.follows in
    record {
      follows = follows_bind _ _ _ _ _ _ _ c.in_ok-mark.ensures.follows (follows_bind _ _ _ _ _ _ _ c.in_ok-walk.ensures.follows (follows_bind _ _ _ _ _ _ _ ft
          (follows_no_memory _ _ _ _ c.in_err-inner.ensures.only_memory c.from_residual-in_err-inner.ensures.1 (search leaving))));
    }

pub under-returns-in_err-inner : goal.under-returns-in_err-inner
under-returns-in_err-inner g t c =
    let e = rw c.in-Lambda.is at c.view.ensures.is in
    record {
      follows = rw (← e) (under_last_memory c.args.env.now c.args.recursive (values_in c.args.scope.now) (marks_in c.args.scope.now) _ _ c.in_err-inner.ensures.only_memory c.from_residual-in_err-inner.ensures.1
          c.in-Lambda.domain c.in-Lambda.body (mark_of c.args.mark) c.args.rarg c.args.m.now c.walk.new.m c.if-rarg-eq0.true c.in_ok-walk.ensures.follows);
    }

pub under-returns-in_err-inner-2 : goal.under-returns-in_err-inner-2
under-returns-in_err-inner-2 g t c =
    let e = rw c.in-Lambda.is at c.view.ensures.is in
    let z : c.args.rarg ≡ suc (c.args.rarg - 1) = grind arith in
    record {
      follows = rw (← e) (under_more_memory c.args.env.now c.args.recursive (values_in c.args.scope.now) (marks_in c.args.scope.now) _ _ c.in_err-inner-2.ensures.only_memory c.from_residual-in_err-inner-2.ensures.1
          c.in-Lambda.domain c.in-Lambda.body (mark_of c.args.mark) c.args.rarg (c.args.rarg - 1) c.args.m.now c.walk.new.m z c.in_ok-walk.ensures.follows);
    }

pub walk_applied-returns-in_err-inner-in-LetIn : goal.walk_applied-returns-in_err-inner-in-LetIn
walk_applied-returns-in_err-inner-in-LetIn g t c =
    let e = rw c.in-LetIn.is at c.view.ensures.is in
    record {
      follows = rw (← e) (let_memory c.args.env.now c.args.recursive (values_in c.args.scope.now) (marks_in c.args.scope.now) _ _ c.in_err-inner-in-LetIn.ensures.only_memory c.from_residual-in_err-inner-in-LetIn.ensures.1
          c.args.args.now c.in-LetIn.value c.in-LetIn.ty c.in-LetIn.body c.args.m.now c.walk-in-LetIn.new.m c.walk-in-LetIn-2.new.m c.in_ok-walk-in-LetIn.ensures.follows c.in_ok-walk-in-LetIn-2.ensures.follows);
    }
