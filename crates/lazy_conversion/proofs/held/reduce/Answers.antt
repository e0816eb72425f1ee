use Rattle.std.proofs.Common.{refl}
use Rattle.std.proofs.lemmas.Result.{err_from_is_err_and}
use Rattle.calculus_rules.specs.Context.{values}
use Rattle.calculus_rules.specs.WeakHead.{no_step}
use Rattle.pc_rules.specs.DirectedRun.{is_beyond}
use Rattle.pc_rules.proofs.Following.{follows_memory, follows_whnf_stays, or_left}
use Rattle.pc_rules.proofs.Leaving.{leaving}
use Rattle.reduce_machine.specs.Seen.{seen_term, argument_term}
use Rattle.lazy_conversion.proofs.Tracking.{passed_none}
use Rattle.lazy_conversion.proofs.held.reduce.Goals as goal

pub returns-in_err-l-in-Lazy-clause-follows : goal.returns-in_err-l-in-Lazy-clause-follows
returns-in_err-l-in-Lazy-clause-follows c =
    let p = err_from_is_err_and c.from_residual.result c.from_residual.ensures.1 in
    rw (p.1, p.2, c.in_err-l-in-Lazy.ensures.only_memory) (follows_memory _ _ (search leaving))

pub returns-in-Value-clause-follows : goal.returns-in-Value-clause-follows
returns-in-Value-clause-follows c =
    let s = rw c.in-Value.is at c.requires.sound in
    rw c.in-Value.is (passed_none _ _ _ _ _ (follows_whnf_stays c.args.at.now.env.now (values c.args.at.now.ctx.now) (seen_term c.in-Value.seen) (seen_term c.in-Value.seen) c.args.m.now s.normal refl))

pub returns-in-Value-clause-held : goal.returns-in-Value-clause-held
returns-in-Value-clause-held c = (rw c.in-Value.is at c.requires.sound).seen

pub returns-in-Value-clause-normal : goal.returns-in-Value-clause-normal
returns-in-Value-clause-normal c = (rw c.in-Value.is at c.requires.sound).normal

pub returns-in-Value-clause-beyond : goal.returns-in-Value-clause-beyond
returns-in-Value-clause-beyond c = λ h. or_left (is_beyond (argument_term c.args.a)) _ (rw c.in-Value.is h)

pub returns-in-Value-clause-reached : goal.returns-in-Value-clause-reached
returns-in-Value-clause-reached c = rw c.in-Value.is no_step
