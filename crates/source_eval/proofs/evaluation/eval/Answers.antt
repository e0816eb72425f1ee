use Rattle.source_eval.proofs.Answered.{gives_the_value, spent_is_too_many}
use Rattle.source_eval.proofs.evaluation.eval.Goals as goal

pub returns-clause-complete : goal.returns-clause-complete
returns-clause-complete c =
    gives_the_value c.args.env.now c.args.t.now c.args.m.now.account c.run.new.m.account c.run.result c.run.ensures.follows.answer

pub returns-clause-spent : goal.returns-clause-spent
returns-clause-spent c =
    spent_is_too_many c.args.env.now c.args.t.now c.args.m.now.account c.run.new.m.account c.run.result c.run.ensures.follows.answer
