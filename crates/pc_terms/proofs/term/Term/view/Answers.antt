use Rattle.std.proofs.Common.{rules}
use Rattle.pc_terms.specs.Formed.{IsFormed}
use Rattle.pc_terms.proofs.Forms.{index_of-formed}
use Rattle.pc_terms.proofs.term.Term.view.Goals as goal

pub returns-clause-indexed : goal.returns-clause-indexed
returns-clause-indexed c =
    let formed : IsFormed c.args.self.now = search rules in
    index_of-formed c.args.self.now formed
