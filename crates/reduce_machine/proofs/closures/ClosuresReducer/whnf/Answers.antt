use Rattle.std.proofs.Common.{◌∙◌, Ok, Err, IsTrue, refl, sym, ap, subst as along}
use Rattle.std.proofs.lemmas.Result.{err_from_is_err_and}
use Rattle.calculus_rules.specs.Context.{values}
use Rattle.calculus_rules.specs.WeakHead.{WeakSteps}
use Rattle.pc_terms.specs.Syntax.{Term}
use Rattle.pc_rules.specs.DirectedRun.{Leaves}
use Rattle.pc_rules.specs.DirectedWeakHead.{weak_next, whnf}
use Rattle.pc_rules.specs.Follows.{Follows, halted}
use Rattle.pc_rules.proofs.FairReduction.{steps_leaves}
use Rattle.pc_rules.proofs.Following.{beyond_is}
use Rattle.pc_rules.proofs.Meters.{after-refl}
use Rattle.reduction.proofs.Ending.{leads_start, fault_follows, memory_follows, done_follows, done_reached}
use Rattle.reduce_machine.specs.Values.{term_of}
use Rattle.reduce_machine.proofs.Bodies.{plain_read}
use Rattle.reduce_machine.proofs.Passed.{plain_reduced}
use Rattle.reduce_machine.proofs.closures.ClosuresReducer.whnf.Goals as goal

pub returns-then-is_normal-clause-follows : goal.returns-then-is_normal-clause-follows
returns-then-is_normal-clause-follows c =
    let e = plain_read c.plain-start.result c.in_ok-term.term c.plain-start.ensures.term c.plain-start.ensures.items ∙ c.in_ok-term.ensures.ok in
    done_follows (whnf c.args.env.now (values c.args.ctx.now) c.args.t.now c.args.m.now.account) c.args.env.now (values c.args.ctx.now) c.args.t.now c.plain-start.result.term
    c.args.m.now c.args.m.now (leads_start c.args.env.now (values c.args.ctx.now) c.args.t.now c.args.t.now c.args.m.now.account refl)
    (ap (weak_next c.args.env.now (values c.args.ctx.now)) (sym e) ∙ c.is_normal.ensures.is c.if-is_normal.true)
    (c.plain-start.ensures.term ∙ c.in_ok-term.ensures.ok) (after-refl c.args.m.now)

pub returns-then-is_normal-clause-reached : goal.returns-then-is_normal-clause-reached
returns-then-is_normal-clause-reached c =
    let e = plain_read c.plain-start.result c.in_ok-term.term c.plain-start.ensures.term c.plain-start.ensures.items ∙ c.in_ok-term.ensures.ok in
    done_reached c.args.env.now (values c.args.ctx.now) c.args.t.now c.args.t.now c.plain-start.result.term c.args.m.now.account c.args.m.now.account
    (leads_start c.args.env.now (values c.args.ctx.now) c.args.t.now c.args.t.now c.args.m.now.account refl)
    (ap (weak_next c.args.env.now (values c.args.ctx.now)) (sym e) ∙ c.is_normal.ensures.is c.if-is_normal.true)
    (c.plain-start.ensures.term ∙ c.in_ok-term.ensures.ok)

pub read-requires : goal.read-requires
read-requires c = c.in_ok-value.ensures.value

pub returns-in_err-term-clause-follows : goal.returns-in_err-term-clause-follows
returns-in_err-term-clause-follows c =
    let p = err_from_is_err_and c.from_residual.result c.from_residual.ensures.1 in
    rw (p.1, p.2) (memory_follows (whnf c.args.env.now (values c.args.ctx.now) c.args.t.now c.args.m.now.account) c.in_err-term.field-0.0 c.args.m.now c.args.m.now c.in_err-term.ensures.only_memory (after-refl c.args.m.now)
    (steps_leaves c.args.env.now (values c.args.ctx.now) c.args.m.now.account.left c.args.t.now c.args.m.now.account))

pub returns-in_err-value-clause-follows : goal.returns-in_err-value-clause-follows
returns-in_err-value-clause-follows c =
    let e = plain_reduced c.args.env.now (values c.args.ctx.now) c.plain-start.result c.in_ok-term.term c.args.t.now c.args.m.now.account c.plain-start.ensures.term
    c.plain-start.ensures.items c.in_ok-term.ensures.ok c.in_ok-term.ensures.within in
    let p = err_from_is_err_and c.from_residual-in_err-value.result c.from_residual-in_err-value.ensures.1 in
    rw (p.1, p.2) (along (λ d. Follows d (halted {A = Term} (Err c.in_err-value.field-0.0)) c.args.m.now c.reduced_value.new.m) e c.in_err-value.ensures.follows)

pub returns-in_err-normal-clause-follows : goal.returns-in_err-normal-clause-follows
returns-in_err-normal-clause-follows c =
    let e = plain_reduced c.args.env.now (values c.args.ctx.now) c.plain-start.result c.in_ok-term.term c.args.t.now c.args.m.now.account c.plain-start.ensures.term
    c.plain-start.ensures.items c.in_ok-term.ensures.ok c.in_ok-term.ensures.within in
    let p = err_from_is_err_and c.from_residual-in_err-normal.result c.from_residual-in_err-normal.ensures.1 in
    rw (p.1, p.2) (fault_follows (whnf c.args.env.now (values c.args.ctx.now) c.args.t.now c.args.m.now.account) c.in_err-normal.field-0.0 c.args.m.now c.reduced_value.new.m
    (λ d. along (λ r. IsTrue r.deep) e (c.in_ok-value.ensures.beyond (beyond_is (term_of c.in_ok-value.value) (c.in_err-normal.ensures.too_deep d))))
    c.in_ok-value.ensures.follows.after (along (λ r. Leaves r.end c.reduced_value.new.m.account.left) e c.in_ok-value.ensures.follows.leaves))

pub returns-clause-follows : goal.returns-clause-follows
returns-clause-follows c =
    let e = plain_reduced c.args.env.now (values c.args.ctx.now) c.plain-start.result c.in_ok-term.term c.args.t.now c.args.m.now.account c.plain-start.ensures.term
    c.plain-start.ensures.items c.in_ok-term.ensures.ok c.in_ok-term.ensures.within in
    along (λ w. Follows (whnf c.args.env.now (values c.args.ctx.now) c.args.t.now c.args.m.now.account) (halted (Ok w)) c.args.m.now c.reduced_value.new.m)
    (sym c.in_ok-normal.ensures.ok)
    (along (λ d. Follows d (halted (Ok (term_of c.in_ok-value.value))) c.args.m.now c.reduced_value.new.m) e c.in_ok-value.ensures.follows)

pub returns-clause-reached : goal.returns-clause-reached
returns-clause-reached c =
    let e = plain_read c.plain-start.result c.in_ok-term.term c.plain-start.ensures.term c.plain-start.ensures.items ∙ c.in_ok-term.ensures.ok in
    along (λ w. WeakSteps c.args.env.now (values c.args.ctx.now) c.args.t.now w) (sym c.in_ok-normal.ensures.ok)
    (along (λ t. WeakSteps c.args.env.now (values c.args.ctx.now) t (term_of c.in_ok-value.value)) e c.in_ok-value.ensures.reached)
