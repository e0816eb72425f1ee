use Rattle.std.proofs.Common.{sym, IfOk, MatchOption, subst as along}
use Rattle.reduce_machine.specs.Normal.{IsLambda}
use Rattle.reduce_machine.specs.Met.{IsBodyIn}
use Rattle.reduce_machine.proofs.Meetings.{are_none, not_none}
use Rattle.reduce_machine.proofs.ValueParts.{value_open, lambda_term, applied_not_lambda, value_not_lambda}
use Rattle.reduce_machine.proofs.meeting.lambda.Goals as goal

pub head_body-requires : goal.head_body-requires
head_body-requires c = value_open c.args.value.now c.in-Open.head c.in-Open.is c.requires

pub returns-then-is_alone-clause-ok : goal.returns-then-is_alone-clause-ok
returns-then-is_alone-clause-ok c =
    along (λ t. IfOk c.head_body.result (λ o. MatchOption o (IsLambda t → ⊥) (λ b. IsBodyIn b.env.items t b.body)))
    (sym (lambda_term c.args.value.now c.in-Open.head c.in-Open.is
    (are_none c.is_alone.result c.args.value.now.spine.args.items c.is_alone.ensures.is c.if-is_alone.true))) c.head_body.ensures.ok

pub returns-else-is_alone-clause-ok : goal.returns-else-is_alone-clause-ok
returns-else-is_alone-clause-ok c =
    applied_not_lambda c.args.value.now (not_none c.is_alone.result c.args.value.now.spine.args.items c.is_alone.ensures.is c.if-is_alone.false)

pub returns-in_default-clause-ok : goal.returns-in_default-clause-ok
returns-in_default-clause-ok c = value_not_lambda c.args.value.now c.requires c.in_default.not-Open
