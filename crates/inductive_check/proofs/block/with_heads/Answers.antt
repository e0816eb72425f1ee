use Rattle.inductive_check.proofs.Listed.{heads_bare}
use Rattle.inductive_check.proofs.block.with_heads.Goals as goal

pub heads-requires-2-clause-no_constructors : goal.heads-requires-2-clause-no_constructors
heads-requires-2-clause-no_constructors c = rw c.in_ok-heads.ensures.ok (heads_bare c.args.families.now)
