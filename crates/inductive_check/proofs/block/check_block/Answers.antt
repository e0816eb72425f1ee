use Rattle.inductive_check.specs.Given.{block_from}
use Rattle.inductive_check.proofs.Heading.{block_fits}
use Rattle.inductive_check.proofs.block.check_block.Goals as goal

pub returns-clause-fits : goal.returns-clause-fits
returns-clause-fits g c =
    let B = block_from c.in-Block.name c.in-Block.params c.in-Block.families in
    let fits = block_fits c.args.env.now c.graph.ensures.consistent c.requires.env c.room-room.result B (rw c.in-Block.is at c.requires.new) c.check_parts.result c.args.m.now
    c.check_parts.new.m c.check_parts.ensures.formed c.check_parts.ensures.follows in
    rw c.in-Block.is fits
