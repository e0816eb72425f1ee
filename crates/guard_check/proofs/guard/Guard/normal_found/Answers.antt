use Rattle.std.proofs.lemmas.Result.{err_from_is_err_and}
use Rattle.pc_rules.proofs.Following.{follows_bind, follows_err, follows_done}
use Rattle.pc_rules.proofs.Leaving.{leaving}
use Rattle.guard_check.specs.Marks.{mark_of}
use Rattle.rule_laws.proofs.Settled.{settled}
use Rattle.guard_check.proofs.guard.Guard.normal_found.Goals as goal

pub returns-in_err-whnf : goal.returns-in_err-whnf
returns-in_err-whnf g c =
    let p = err_from_is_err_and c.from_residual.result c.from_residual.ensures.1 in
    record { follows = rw (p.1, p.2) (follows_err _ _ _ _ _ c.in_err-whnf.ensures.follows (search leaving)) }

pub found-requires : goal.found-requires
found-requires g c = record { normal = settled _ _ _ _ _ _ c.in_ok-whnf.ensures.follows }

pub returns-in_err-mark : goal.returns-in_err-mark
returns-in_err-mark g c =
    let p = err_from_is_err_and c.from_residual-in_err-mark.result c.from_residual-in_err-mark.ensures.1 in
    record { follows = rw (p.1, p.2) (follows_bind _ _ _ _ _ _ _ c.in_ok-whnf.ensures.follows (follows_err _ _ _ _ _ c.in_err-mark.ensures.follows (search leaving))) }

pub returns : goal.returns
returns g c = record {
  follows = follows_bind _ _ _ _ _ _ _ c.in_ok-whnf.ensures.follows
      (follows_bind _ _ _ _ _ _ _ c.in_ok-mark.ensures.follows (follows_done (c.in_ok-whnf.whnf, mark_of c.in_ok-mark.mark) c.found.new.m));
}
