use Rattle.std.proofs.Common.{None, ◌≤◌, ◌<◌, length, arith, sym, ap, ◌∙◌}
use Rattle.pc_terms.specs.Lists.{rargs_of, bodies_of}
use Rattle.pc_terms.proofs.Parts.{rargs_length}
use Rattle.calculus_rules.specs.Context.{values, under}
use Rattle.std.proofs.lemmas.Result.{err_from_is_err_and}
use Rattle.pc_rules.proofs.Following.{follows_no_memory}
use Rattle.pc_rules.proofs.FairRules.{guard_leaves}
use Rattle.guard_check.proofs.WalkRuns.{bodies_next, bodies_stop, bodies_end, in_scope}
use Rattle.guard_check.proofs.guard.Guard.bodies.Goals as goal

pub returns-in_err-body : goal.returns-in_err-body
returns-in_err-body g c =
    let p = err_from_is_err_and c.from_residual-in_err-body.result c.from_residual-in_err-body.ensures.1 in
    let l : c.loop-def.def-index < length c.args.defs.now = grind arith in
    let f = c.in_err-body.ensures.follows in
    record {
      follows = rw (p.1, p.2) (in_scope _ _ _ _ _ _ _ _ _ _ (c.in_ok-scope.ensures.values ∙ ap (λ n. under n (values c.args.ctx.now)) (sym (rargs_length c.args.defs.now))) c.in_ok-scope.ensures.marks
          (c.loop-def.invariant _ _ (bodies_stop _ None _ _ (length c.args.defs.now) c.args.defs.now c.loop-def.def-index c.def-item.result l c.def-item.is _ c.loop-def.m c.body.new.m f)));
    }

pub loop-def-preserved : goal.loop-def-preserved
loop-def-preserved g c = λ r n x.
    let l : c.loop-def.def-index < length c.args.defs.now = grind arith in
    c.loop-def.invariant r n (bodies_next _ None _ _ (length c.args.defs.now) c.args.defs.now c.loop-def.def-index c.def-item.result l c.def-item.is r c.loop-def.m c.body.new.m n c.in_ok-body.ensures.follows x)

pub returns : goal.returns
returns g c =
    let l : length c.args.defs.now ≤ c.loop-def.def-index = grind arith in
    record {
      follows = in_scope _ _ _ _ _ _ _ _ _ _ (c.in_ok-scope.ensures.values ∙ ap (λ n. under n (values c.args.ctx.now)) (sym (rargs_length c.args.defs.now))) c.in_ok-scope.ensures.marks
          (c.loop-def.invariant _ _ (bodies_end _ None _ _ (length c.args.defs.now) c.args.defs.now c.loop-def.def-index c.loop-def.m l));
    }

pub returns-in_err-scope : goal.returns-in_err-scope
returns-in_err-scope g c =
    record {
      follows = follows_no_memory _ _ _ _ c.in_err-scope.ensures.only_memory c.from_residual.ensures.1
          (guard_leaves c.args.env.now (values c.args.ctx.now) (rargs_of c.args.defs.now) (bodies_of (length c.args.defs.now) c.args.defs.now) c.args.m.now.account);
    }
