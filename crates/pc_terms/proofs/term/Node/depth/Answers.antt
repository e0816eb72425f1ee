use Rattle.pc_terms.proofs.Forms.{fix-formed}
use Rattle.pc_terms.proofs.term.Node.depth.Goals as goal

pub returns-in-Fix-clause-formed : goal.returns-in-Fix-clause-formed
returns-in-Fix-clause-formed c = rw c.in-Fix.is (λ h. fix-formed c.in-Fix.ds c.in-Fix.field-1 h c.depth-in-Fix.ensures.formed)
