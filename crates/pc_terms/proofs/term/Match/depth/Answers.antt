use Rattle.pc_terms.proofs.Forms.{case-formed}
use Rattle.pc_terms.proofs.term.Match.depth.Goals as goal

pub returns-clause-formed : goal.returns-clause-formed
returns-clause-formed c = case-formed c.args.self.now c.depth.ensures.formed c.depth-2.ensures.formed c.depth-3.ensures.formed c.depth-4.ensures.formed
