use Rattle.inductive_check.specs.Given.{block_from}
use Rattle.block_cert.proofs.Whole.{block_fits}
use Rattle.block_cert.proofs.block.walk_block.Goals as goal

pub returns-clause-fits : goal.returns-clause-fits
returns-clause-fits g c =
    let B = block_from c.in-Block.name c.in-Block.params c.in-Block.families in
    let fits = block_fits c.args.walk.now.verifier c.requires.ready B (rw c.in-Block.is at c.requires.new) c.walk_parts.result c.args.trail.now c.walk_parts.new.trail
    c.walk_parts.ensures.formed c.walk_parts.ensures.retraces in
    rw c.in-Block.is fits
