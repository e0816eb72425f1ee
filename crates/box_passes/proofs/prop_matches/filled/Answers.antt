use Rattle.trees.specs.Measures.{IsBeyond}
use Rattle.trees.specs.Substitution.{subst_list}
use Rattle.box_passes.proofs.Dropping.{filled_beyond}
use Rattle.box_passes.proofs.prop_matches.filled.Goals as goal

pub returns-in-Err-TooDeep-clause-only_memory : goal.returns-in-Err-TooDeep-clause-only_memory
returns-in-Err-TooDeep-clause-only_memory c =
    let b : IsBeyond (subst_list 0 c.in_ok-list.list c.args.body.now) = c.in-Err-TooDeep.ensures.too_deep c.in-Err-TooDeep.field-0-is in
    absurd (filled_beyond c.args.fs.now c.args.t.now c.args.body.now c.args.k c.in_ok-list.list c.depth-within.ensures.within c.in_ok-list.ensures.ok c.requires.is b)
