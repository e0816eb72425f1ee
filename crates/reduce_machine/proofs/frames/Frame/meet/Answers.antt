use Rattle.std.proofs.Common.{refl}
use Rattle.reduce_machine.specs.Values.{term_of}
use Rattle.reduce_machine.specs.Reads.{read}
use Rattle.reduce_machine.proofs.Meetings.{argument_met, deep_around}
use Rattle.reduce_machine.proofs.frames.Frame.meet.Goals as goal

pub meet_argument-requires : goal.meet_argument-requires
meet_argument-requires c = c.requires.value

pub meet_match-requires : goal.meet_match-requires
meet_match-requires c = record { node = rw c.in-Scrutinee.is at c.requires.node; value = c.requires.value }

pub meet_fixpoint-requires : goal.meet_fixpoint-requires
meet_fixpoint-requires c = record {
  node = rw c.in-Recursive.is at c.requires.node;
  waits = rw c.in-Recursive.is at c.requires.frame;
  value = c.requires.value;
  root = c.requires.root;
}

pub returns-in-Argument-clause-ok : goal.returns-in-Argument-clause-ok
returns-in-Argument-clause-ok c =
    rw c.in-Argument.is (argument_met c.args.env.now (term_of c.args.value) (read c.in-Argument.argument) c.meet_argument.result c.meet_argument.ensures.ok)

pub returns-in-Argument-clause-keeps : goal.returns-in-Argument-clause-keeps
returns-in-Argument-clause-keeps c = rw c.in-Argument.is c.meet_argument.ensures.keeps

pub returns-in-Scrutinee-clause-ok : goal.returns-in-Scrutinee-clause-ok
returns-in-Scrutinee-clause-ok c = rw c.in-Scrutinee.is c.meet_match.ensures.ok

pub returns-in-Scrutinee-clause-keeps : goal.returns-in-Scrutinee-clause-keeps
returns-in-Scrutinee-clause-keeps c = rw c.in-Scrutinee.is c.meet_match.ensures.keeps

pub returns-in-Recursive-clause-ok : goal.returns-in-Recursive-clause-ok
returns-in-Recursive-clause-ok c = rw c.in-Recursive.is c.meet_fixpoint.ensures.ok

pub returns-in-Recursive-clause-keeps : goal.returns-in-Recursive-clause-keeps
returns-in-Recursive-clause-keeps c = rw c.in-Recursive.is c.meet_fixpoint.ensures.keeps

pub returns-clause-ok : goal.returns-clause-ok
returns-clause-ok c = rw c.in-Update.is (λ V n. n)

pub returns-clause-keeps : goal.returns-clause-keeps
returns-clause-keeps c = rw c.in-Update.is (refl, c.requires.value)

pub returns-in-Recursive-clause-too_deep : goal.returns-in-Recursive-clause-too_deep
returns-in-Recursive-clause-too_deep c =
    let m = rw c.in-Recursive.is at c.requires.frame in
    rw c.in-Recursive.is (deep_around _ (term_of c.args.value) c.meet_fixpoint.result m c.meet_fixpoint.ensures.too_deep)
