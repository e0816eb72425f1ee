use Rattle.trees.specs.Measures.{IsBeyond}
use Rattle.box_terms.specs.BoxView.{box_of}
use Rattle.box_passes.proofs.Dropping.{not_beyond}
use Rattle.box_passes.proofs.prop_matches.made.Goals as goal

pub returns-in-Err-TooDeep-clause-only_memory : goal.returns-in-Err-TooDeep-clause-only_memory
returns-in-Err-TooDeep-clause-only_memory c =
    let b : IsBeyond (box_of c.args.node) = c.in-Err-TooDeep.ensures.too_deep c.in-Err-TooDeep.field-0-is in
    absurd (not_beyond c.args.fs.now c.args.t.now (box_of c.args.node) c.depth-within.ensures.within c.requires.is b)
