use Rattle.std.proofs.Common.{◌≡◌, ◌∙◌, sym, IfOk, MatchOption, Some, None, subst as along}
use Rattle.pc_terms.specs.Syntax.{substitute, first}
use Rattle.calculus_rules.specs.Context.{values}
use Rattle.reduce_machine.specs.Reads.{stands, read}
use Rattle.reduce_machine.specs.Steps.{contractum}
use Rattle.reduce_machine.proofs.Meetings.{let_binds}
use Rattle.reduce_machine.proofs.Opens.{variable_next, not_item, other_head}
use Rattle.reduce_machine.proofs.heads.head_step.Goals as goal

pub returns-in-Past-clause-ok : goal.returns-in-Past-clause-ok
returns-in-Past-clause-ok c =
    let e = rw c.in-Rel.is at c.view.ensures.is in
    along (λ x. IfOk c.variable.result (λ o. MatchOption o (x ≡ None) (λ s. x ≡ Some (contractum s))))
    (sym (variable_next c.args.env.now (values c.args.ctx.now) c.args.t.now.env.items c.in-Rel.i c.in-Past.j c.args.t.now.term e c.in-Past.ensures.found)) c.variable.ensures.ok

pub unreachable-requires : goal.unreachable-requires
unreachable-requires c =
    let e = rw c.in-Rel.is at c.view.ensures.is in
    not_item c.args.t.now.env.items c.in-Rel.i c.args.t.now.term (read c.in-Item.field-0.now) e c.requires c.in-Item.ensures.found.0

pub returns-in_ok-env-in-LetIn-clause-ok : goal.returns-in_ok-env-in-LetIn-clause-ok
returns-in_ok-env-in-LetIn-clause-ok c =
    let e = rw c.in-LetIn.is at c.view.ensures.is in
    let_binds c.args.env.now (values c.args.ctx.now) c.args.t.now.env.items _ _ _ c.args.t.now.term c.in_ok-value-in-LetIn.value e c.in_ok-value-in-LetIn.ensures.ok
    ∙ (λ j. Some (substitute (first (read c.in_ok-value-in-LetIn.value) (stands (sym c.in_ok-env-in-LetIn.ensures.ok j).items)) (sym c.in_ok-body-in-LetIn.ensures.ok j)))

pub returns-in_default-clause-ok : goal.returns-in_default-clause-ok
returns-in_default-clause-ok c =
    other_head c.args.env.now (values c.args.ctx.now) c.args.t.now.env.items c.view.result.now c.args.t.now.term c.view.ensures.is c.requires c.in_default.not-Rel
    c.in_default.not-Const c.in_default.not-LetIn
