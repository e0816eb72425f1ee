use Rattle.std.proofs.Common.{◌≡◌, ◌-◌, suc, arith}
use Rattle.std.proofs.lemmas.Result.{err_from_is_err_and}
use Rattle.pc_rules.proofs.Following.{follows_memory}
use Rattle.pc_rules.proofs.FairRules.{recursive_block_leaves}
use Rattle.guard_check.specs.Marks.{values_in}
use Rattle.guard_check.proofs.BlockRuns.{block_other, block_stops, block_here, block_later}
use Rattle.guard_check.proofs.guard.Guard.+recursive_block.Goals as goal

pub returns-in_default : goal.returns-in_default
returns-in_default g t c = record { follows = block_other c.args.env.now (values_in c.args.scope.now) c.view.result.now c.args.t.now c.args.rarg c.args.m.now c.view.ensures.is c.in_default.not-Lambda }

pub returns-in_err-whnf : goal.returns-in_err-whnf
returns-in_err-whnf g t c =
    let e = rw c.in-Lambda.is at c.view.ensures.is in
    let p = err_from_is_err_and c.from_residual.result c.from_residual.ensures.1 in
    record {
      follows = rw (← e, p.1, p.2) (block_stops c.args.env.now (values_in c.args.scope.now) c.in-Lambda.domain c.in-Lambda.body c.args.rarg _ c.args.m.now c.whnf.new.m c.if-rarg-eq0.true
          c.in_err-whnf.ensures.follows);
    }

pub returns-then-rarg-eq0 : goal.returns-then-rarg-eq0
returns-then-rarg-eq0 g t c =
    let e = rw c.in-Lambda.is at c.view.ensures.is in
    record {
      follows = rw (← e, c.head_block.ensures.is) (block_here c.args.env.now (values_in c.args.scope.now) c.in-Lambda.domain c.in-Lambda.body c.in_ok-whnf.whnf c.args.rarg c.args.m.now c.whnf.new.m
          c.if-rarg-eq0.true c.in_ok-whnf.ensures.follows);
    }

pub returns : goal.returns
returns g t c =
    let e = rw c.in-Lambda.is at c.view.ensures.is in
    let z : c.args.rarg ≡ suc (c.args.rarg - 1) = grind arith in
    record {
      follows = rw (← e) (block_later c.args.env.now (values_in c.args.scope.now) _ c.in-Lambda.domain c.in-Lambda.body c.args.rarg (c.args.rarg - 1) _ c.args.m.now c.recursive_block.new.m z
          c.in_ok-inner.ensures.values c.recursive_block.ensures.follows);
    }

pub returns-in_err-inner : goal.returns-in_err-inner
returns-in_err-inner g t c =
    let p = err_from_is_err_and c.from_residual-in_err-inner.result c.from_residual-in_err-inner.ensures.1 in
    record {
      follows = rw (p.1, p.2, c.in_err-inner.ensures.only_memory)
          (follows_memory _ c.args.m.now (recursive_block_leaves c.args.env.now (values_in c.args.scope.now) c.args.rarg c.args.t.now c.args.m.now.account));
    }
