use Rattle.std.proofs.Common.{◌∙◌, ap, refl}
use Rattle.std.proofs.lemmas.Result.{err_from_is_err_and}
use Rattle.calculus_rules.specs.Context.{values}
use Rattle.pc_rules.specs.DirectedWeakHead.{weak_next}
use Rattle.pc_rules.proofs.FairReduction.{steps_leaves}
use Rattle.pc_rules.proofs.Meters.{after-refl}
use Rattle.reduction.proofs.Ending.{memory_follows, done_follows}
use Rattle.reduce_machine.specs.Passed.{reduced}
use Rattle.reduce_machine.specs.Reads.{read}
use Rattle.reduce_machine.specs.Values.{term_of}
use Rattle.reduce_machine.proofs.Passed.{passed_start, passed_beyond, passed_reached}
use Rattle.reduce_machine.proofs.setting.Setting.weak_value.Goals as goal

pub spine_value-requires : goal.spine_value-requires
spine_value-requires c = c.is_normal.ensures.shown c.if-is_normal.true

pub returns-in_err-value-clause-follows : goal.returns-in_err-value-clause-follows
returns-in_err-value-clause-follows c =
    let p = err_from_is_err_and c.from_residual.result c.from_residual.ensures.1 in
    rw (p.1, p.2) (memory_follows (reduced c.args.self.now.env.now (values c.args.self.now.ctx.now) (read c.args.term) c.args.m.now.account) c.in_err-value.field-0.0 c.args.m.now c.args.m.now
    c.in_err-value.ensures.only_memory (after-refl c.args.m.now)
    (steps_leaves c.args.self.now.env.now (values c.args.self.now.ctx.now) c.args.m.now.account.left (read c.args.term) c.args.m.now.account))

pub returns-then-is_normal-clause-follows : goal.returns-then-is_normal-clause-follows
returns-then-is_normal-clause-follows c =
    done_follows (reduced c.args.self.now.env.now (values c.args.self.now.ctx.now) (read c.args.term) c.args.m.now.account) c.args.self.now.env.now (values c.args.self.now.ctx.now) (read c.args.term)
    (term_of c.in_ok-value.value) c.args.m.now c.args.m.now (passed_start c.args.self.now.env.now (values c.args.self.now.ctx.now) (read c.args.term) (read c.args.term) c.args.m.now.account refl)
    (c.is_normal.ensures.is c.if-is_normal.true) c.in_ok-value.ensures.term (after-refl c.args.m.now)

pub returns-then-is_normal-clause-value : goal.returns-then-is_normal-clause-value
returns-then-is_normal-clause-value c = c.in_ok-value.ensures.value

pub returns-then-is_normal-clause-normal : goal.returns-then-is_normal-clause-normal
returns-then-is_normal-clause-normal c =
    ap (weak_next c.args.self.now.env.now (values c.args.self.now.ctx.now)) c.in_ok-value.ensures.term ∙ c.is_normal.ensures.is c.if-is_normal.true

pub returns-then-is_normal-clause-beyond : goal.returns-then-is_normal-clause-beyond
returns-then-is_normal-clause-beyond c =
    passed_beyond c.args.self.now.env.now (values c.args.self.now.ctx.now) (read c.args.term) (term_of c.in_ok-value.value) c.args.m.now.account c.in_ok-value.ensures.term

pub returns-then-is_normal-clause-reached : goal.returns-then-is_normal-clause-reached
returns-then-is_normal-clause-reached c =
    passed_reached c.args.self.now.env.now (values c.args.self.now.ctx.now) (read c.args.term) (read c.args.term) (term_of c.in_ok-value.value) c.args.m.now.account c.args.m.now.account
    (passed_start c.args.self.now.env.now (values c.args.self.now.ctx.now) (read c.args.term) (read c.args.term) c.args.m.now.account refl) (c.is_normal.ensures.is c.if-is_normal.true)
    c.in_ok-value.ensures.term
