use Rattle.std.proofs.Common.{map, sym, ap, subst as along}
use Rattle.std.proofs.lemmas.Result.{err_from_is_err_and}
use Rattle.trees.specs.Measures.{IsBeyond}
use Rattle.pc_terms.specs.Syntax.{Term, apply}
use Rattle.pc_terms.proofs.Applied.{function_beyond}
use Rattle.redexes.proofs.Unfolding.{body_beyond}
use Rattle.reduce_machine.specs.Reads.{read}
use Rattle.reduce_machine.proofs.spines.read_fixpoint.Goals as goal

pub returns-in_err-head-clause-too_deep : goal.returns-in_err-head-clause-too_deep
returns-in_err-head-clause-too_deep c =
    let p = err_from_is_err_and c.from_residual.result c.from_residual.ensures.1 in
    rw (p.1, p.2) (λ e. body_beyond (read c.args.fix.now) (map read c.args.before.now.items) c.args.inner (c.in_err-head.ensures.too_deep e))

pub returns-in_err-function-clause-too_deep : goal.returns-in_err-function-clause-too_deep
returns-in_err-function-clause-too_deep c =
    let p = err_from_is_err_and c.from_residual-in_err-function.result c.from_residual-in_err-function.ensures.1 in
    rw (p.1, p.2) (λ e. function_beyond (apply (read c.args.fix.now) (map read c.args.before.now.items)) c.args.inner
    (along (λ (x : Term). IsBeyond (apply x (map read c.args.before.now.items))) c.in_ok-head.ensures.ok (c.in_err-function.ensures.too_deep e)))
