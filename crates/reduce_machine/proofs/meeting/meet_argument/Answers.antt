use Rattle.std.proofs.Common.{refl}
use Rattle.pc_terms.specs.Syntax.{App}
use Rattle.reduce_machine.specs.Reads.{read}
use Rattle.reduce_machine.specs.Values.{term_of}
use Rattle.reduce_machine.specs.declared.steps.Step.TheVariants.{Bound}
use Rattle.reduce_machine.proofs.Meetings.{lambda_binds, no_source, waits_stuck, more_value, next_is}
use Rattle.reduce_machine.proofs.meeting.meet_argument.Goals as goal

pub lambda-requires : goal.lambda-requires
lambda-requires c = c.requires

pub returns-in-Some-clause-ok : goal.returns-in-Some-clause-ok
returns-in-Some-clause-ok c =
    let b = rw c.in-Some.is at c.in_ok-found.ensures.ok in
    λ E V n. lambda_binds E V c.in-Some.found.env.items b.0 c.in-Some.found.body (term_of c.args.value) (read c.args.argument) b.1

pub returns-in-Some-clause-keeps : goal.returns-in-Some-clause-keeps
returns-in-Some-clause-keeps c = record {
  node = tt;
  part = no_source (App (term_of c.args.value) (read c.args.argument)) (Bound c.in-Some.found.body c.in-Some.found.env c.args.argument) refl;
}

pub inward-requires-clause-value : goal.inward-requires-clause-value
inward-requires-clause-value c = c.requires

pub inward-requires-clause-next : goal.inward-requires-clause-next
inward-requires-clause-next c = next_is c.args.value c.is_next.result c.requires c.is_next.ensures.is c.if-is_next.true

pub returns-then-is_next-clause-ok : goal.returns-then-is_next-clause-ok
returns-then-is_next-clause-ok c = λ E V n. c.inward.ensures.met E V

pub returns-then-is_next-clause-keeps : goal.returns-then-is_next-clause-keeps
returns-then-is_next-clause-keeps c = c.inward.ensures.keeps

pub returns-clause-ok : goal.returns-clause-ok
returns-clause-ok c =
    let b = rw c.in_default.is at c.in_ok-found.ensures.ok in
    λ E V n. waits_stuck E V c.args.value (read c.args.argument) c.is_next.result b c.requires c.is_next.ensures.is c.if-is_next.false n

pub returns-clause-keeps : goal.returns-clause-keeps
returns-clause-keeps c = (
  c.in_ok-wider.ensures.term,
  more_value c.args.value c.in_ok-wider.wider c.args.argument c.in_ok-wider.ensures.head c.in_ok-wider.ensures.below c.in_ok-wider.ensures.term c.in_ok-wider.ensures.missing c.requires,
)
