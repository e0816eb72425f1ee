use Rattle.std.proofs.Common.{rules, ◌≡◌, Some}
use Rattle.std.proofs.lemmas.Result.{err_from_is_err_and}
use Rattle.calculus_rules.specs.Lookups.{kept_at, whole_block}
use Rattle.instances.proofs.KnownFamilies.{family_of-read, stop_of-deep}
use Rattle.instances.proofs.instantiations.pred_entries.Goals as goal

pub returns-in_err-entries-clause-too_deep : goal.returns-in_err-entries-clause-too_deep
returns-in_err-entries-clause-too_deep c =
    let p = err_from_is_err_and c.from_residual.result c.from_residual.ensures.1 in
    let is : whole_block (kept_at c.args.env.now.declarations c.args.id.block) ≡ Some c.unwrap-block.result.now = search rules in
    rw (p.1, p.2) (λ deep F f.
    rw (family_of-read c.args.env.now c.args.id c.unwrap-block.result.now F c.index-as_slice-id.result is (cc) f)
    (c.in_err-entries.ensures.too_deep (stop_of-deep _ deep) c.unwrap-block.result.now.params))

pub returns-clause-ok : goal.returns-clause-ok
returns-clause-ok c =
    let is : whole_block (kept_at c.args.env.now.declarations c.args.id.block) ≡ Some c.unwrap-block.result.now = search rules in
    λ F f.
    rw (family_of-read c.args.env.now c.args.id c.unwrap-block.result.now F c.index-as_slice-id.result is (cc) f)
    (c.in_ok-entries.ensures.ok c.unwrap-block.result.now.params)
