use Rattle.std.proofs.Common.{map}
use Rattle.std.proofs.lemmas.Result.{err_from_is_err_and}
use Rattle.pc_terms.proofs.Applied.{beyond-apply}
use Rattle.reduce_machine.specs.Reads.{read}
use Rattle.reduce_machine.specs.Spines.{head_on, below_term}
use Rattle.reduce_machine.proofs.spines.Spine.read.Goals as goal

pub returns-in_err-head-clause-too_deep : goal.returns-in_err-head-clause-too_deep
returns-in_err-head-clause-too_deep c =
    let p = err_from_is_err_and c.from_residual.result c.from_residual.ensures.1 in
    rw (p.1, p.2) (λ e. beyond-apply (head_on c.args.self.now.head (below_term c.args.inner)) (map read c.args.self.now.args.items) (c.in_err-head.ensures.too_deep e))
