use Rattle.std.proofs.Common.{rules, ◌≡◌, Some}
use Rattle.std.proofs.lemmas.Result.{err_from_is_err_and}
use Rattle.calculus_rules.specs.Lookups.{kept_at, whole_block}
use Rattle.instances.proofs.KnownFamilies.{family_of-block, stop_of-deep}
use Rattle.instances.proofs.instantiations.construct_type.Goals as goal

pub returns-in_err-ty-clause-too_deep : goal.returns-in_err-ty-clause-too_deep
returns-in_err-ty-clause-too_deep c =
    let p = err_from_is_err_and c.from_residual.result c.from_residual.ensures.1 in
    let is : whole_block (kept_at c.args.env.now.declarations c.args.id.block) ≡ Some c.unwrap-block.result.now = search rules in
    rw (p.1, p.2) (λ deep F C f e.
    let (G, at, decl) = family_of-block c.args.env.now c.args.id c.unwrap-block.result.now F is f in
    let same : c.kept_constructor-ctor.result.now ≡ C = cc in
    rw (decl, ← same) (c.in_err-ty.ensures.too_deep (stop_of-deep _ deep) G))

pub returns-clause-ok : goal.returns-clause-ok
returns-clause-ok c =
    let is : whole_block (kept_at c.args.env.now.declarations c.args.id.block) ≡ Some c.unwrap-block.result.now = search rules in
    λ F C f e.
    let (G, at, decl) = family_of-block c.args.env.now c.args.id c.unwrap-block.result.now F is f in
    let same : c.kept_constructor-ctor.result.now ≡ C = cc in
    rw (decl, ← same) (c.in_ok-ty.ensures.ok G)
