use Rattle.std.proofs.Common.{Some, get_or, ap, sym, ◌∙◌, subst as along}
use Rattle.std.proofs.lemmas.Result.{err_from_is_err_and}
use Rattle.trees.specs.Measures.{IsBeyond}
use Rattle.trees.proofs.Cutoffs.{subst_list-substitute}
use Rattle.pc_terms.specs.Syntax.{Term, Rel, put_all, substitute}
use Rattle.instances.proofs.Definitions.{all_fixpoints, unfolding_at, unfolding_at-beyond, unfolding_read}
use Rattle.instances.proofs.instances.fixpoints.fix_unfold.Goals as goal

pub returns-clause-ok : goal.returns-clause-ok
returns-clause-ok c =
    let read = unfolding_read c.args.defs.now c.as_slice.result.now c.in_ok-list.list c.args.i c.index-as_slice-i.result c.as_slice.ensures.is c.in_ok-list.ensures.ok in
    unfolding_at c.args.defs.now c.args.i c.index-as_slice-i.result c.requires.there ∙ sym (ap Some (c.in_ok-unfolded.ensures.parallel ∙ read))

pub returns-in_err-unfolded-clause-too_deep : goal.returns-in_err-unfolded-clause-too_deep
returns-in_err-unfolded-clause-too_deep c =
    let p = err_from_is_err_and c.from_residual-in_err-unfolded.result c.from_residual-in_err-unfolded.ensures.1 in
    let read = unfolding_read c.args.defs.now c.as_slice.result.now c.in_ok-list.list c.args.i c.index-as_slice-i.result c.as_slice.ensures.is c.in_ok-list.ensures.ok in
    let put = subst_list-substitute c.in_ok-list.list 0 (get_or c.as_slice.result.now c.args.i c.index-as_slice-i.result).body in
    rw (p.1, p.2) (λ e. unfolding_at-beyond c.args.defs.now c.args.i
    (substitute (put_all (all_fixpoints c.args.defs.now) Rel) (get_or c.args.defs.now c.args.i c.index-as_slice-i.result).body)
    (unfolding_at c.args.defs.now c.args.i c.index-as_slice-i.result c.requires.there)
    (along (λ (t : Term). IsBeyond t) (put ∙ read) (c.in_err-unfolded.ensures.too_deep e)))
