use Rattle.inductive_check.specs.Given.{block_from}
use Rattle.inductive_check.proofs.SoundPositivity.{positive_sound}
use Rattle.inductive_check.proofs.positive.positive.Goals as goal

pub returns-clause-positive : goal.returns-clause-positive
returns-clause-positive c =
    rw c.in-Block.is (positive_sound c.args.env.now (block_from c.in-Block.name c.in-Block.params c.in-Block.families) c.families_positive.result c.args.m.now c.families_positive.new.m
    (rw (← c.as_slice.ensures.is) c.families_positive.ensures.follows))
