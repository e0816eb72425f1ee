use Rattle.cert_rules.specs.MakingTyping.{side}
use Rattle.script_making.specs.Sides.{steps_of}
use Rattle.script_making.proofs.Making.{makes_passed, makes_halt, makes_unwritten, makes_put}
use Rattle.script_making.proofs.maker.Maker.reduced.Goals as goal

pub returns-in_err-count-clause-makes : goal.returns-in_err-count-clause-makes
returns-in_err-count-clause-makes g c = makes_passed c.from_residual.ensures.1 (makes_halt (side (steps_of c.args.which)) _ _ _ _ c.in_err-count.ensures.follows)

pub returns-in_err-put_steps-clause-makes : goal.returns-in_err-put_steps-clause-makes
returns-in_err-put_steps-clause-makes g c =
    makes_passed c.from_residual-in_err-put_steps.ensures.1 (makes_unwritten _ _ c.args.draft.now c.counted.new.draft c.put_steps.new.draft c.in_err-put_steps.ensures.only_memory c.in_ok-count.ensures.follows.after c.in_err-put_steps.ensures.meter)

pub returns-clause-makes : goal.returns-clause-makes
returns-clause-makes g c =
    makes_put (side (steps_of c.args.which)) _ _ c.in_ok-count.count c.args.draft.now c.counted.new.draft c.put_steps.new.draft c.in_ok-count.ensures.follows c.in_ok-count.ensures.written c.in_ok-count.ensures.count
    c.in_ok-put_steps.ensures.meter c.in_ok-put_steps.ensures.written
