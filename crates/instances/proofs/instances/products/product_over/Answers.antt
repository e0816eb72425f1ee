use Rattle.std.proofs.Common.{◌+◌, ◌-◌, ◌<◌, length, take, refl, ap, ◌∙◌, subst as along, arith}
use Rattle.std.proofs.lemmas.Result.{err_from_is_err_and}
use Rattle.trees.specs.Measures.{IsBeyond}
use Rattle.pc_terms.specs.Syntax.{Term, Prod}
use Rattle.calculus_rules.specs.Instances.{products}
use Rattle.instances.proofs.Codomains.{products-next, products-beyond}
use Rattle.instances.proofs.instances.products.product_over.Goals as goal

pub returns-in_err-product-clause-too_deep : goal.returns-in_err-product-clause-too_deep
returns-in_err-product-clause-too_deep c =
    let p = err_from_is_err_and c.from_residual-in_err-product.result c.from_residual-in_err-product.ensures.1 in
    let types = c.as_slice-types.result.now in
    let lt : c.loop-i.i < length c.as_slice-types.result.now = omega arith in
    let next = products-next c.as_slice-types.result.now (length c.as_slice-types.result.now) c.loop-i.i c.index-types-count.result c.loop-i.product c.index-types-count.is refl lt in
    let whole = next ∙ c.loop-i.invariant ∙ ap (λ As. products As c.args.body) c.as_slice-types.ensures.is in
    rw (p.1, p.2) (λ e. along (λ (t : Term). IsBeyond t) whole
    (products-beyond (take (length c.as_slice-types.result.now - (c.loop-i.i + 1)) c.as_slice-types.result.now) (Prod c.index-types-count.result c.loop-i.product)
    (along (λ (a : Term). IsBeyond (Prod a c.loop-i.product)) c.in_ok-domain.ensures.ok (c.in_err-product.ensures.too_deep e))))

pub loop-i-preserved : goal.loop-i-preserved
loop-i-preserved c =
    let lt : c.loop-i.i < length c.as_slice-types.result.now = omega arith in
    let next = products-next c.as_slice-types.result.now (length c.as_slice-types.result.now) c.loop-i.i c.index-types-count.result c.loop-i.product c.index-types-count.is refl lt in
    ap (products (take (length c.as_slice-types.result.now - (c.loop-i.i + 1)) c.as_slice-types.result.now))
    (c.in_ok-product.ensures.ok ∙ ap (λ a. Prod a c.loop-i.product) c.in_ok-domain.ensures.ok)
    ∙ next ∙ c.loop-i.invariant
