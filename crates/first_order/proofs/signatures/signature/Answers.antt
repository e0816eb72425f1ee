use Rattle.std.proofs.Common.{sym, ◌∙◌}
use Rattle.std.proofs.lemmas.Result.{err_from_is_err_and}
use Rattle.first_order.proofs.Signing.{type_stops, no_product, a_product, found_is, found_takes}
use Rattle.first_order.specs.DirectedSignature.{signed}
use Rattle.first_order.proofs.signatures.signature.Goals as goal

pub returns-in_err-whnf-clause-follows : goal.returns-in_err-whnf-clause-follows
returns-in_err-whnf-clause-follows g c =
    let f = rw c.new-ctx.ensures.empty at c.in_err-whnf.ensures.follows in
    let p = err_from_is_err_and c.from_residual.result c.from_residual.ensures.1 in
    rw (p.1, p.2) (type_stops c.args.env.now c.args.ty.now c.in_err-whnf.field-0.0 c.args.m.now c.whnf.new.m f)

pub returns-then-not-is_product-clause-follows : goal.returns-then-not-is_product-clause-follows
returns-then-not-is_product-clause-follows g c =
    let f = rw c.new-ctx.ensures.empty at c.in_ok-whnf.ensures.follows in
    no_product c.args.env.now c.args.ty.now c.in_ok-whnf.whnf c.args.m.now c.whnf.new.m f (sym c.is_product.ensures.is ∙ c.if-not-is_product.true)

pub returns-clause-follows : goal.returns-clause-follows
returns-clause-follows g c =
    let f = rw c.new-ctx.ensures.empty at c.in_ok-whnf.ensures.follows in
    a_product c.args.env.now c.args.ty.now c.in_ok-whnf.whnf (signed c.signature_of.result) c.args.m.now c.whnf.new.m c.signature_of.new.m f (sym c.is_product.ensures.is ∙ c.if-not-is_product.false) c.signature_of.ensures.follows

pub returns-clause-is : goal.returns-clause-is
returns-clause-is g c =
    let f = rw c.new-ctx.ensures.empty at c.in_ok-whnf.ensures.follows in
    found_is c.args.env.now c.args.ty.now c.signature_of.result c.args.m.now c.signature_of.new.m
    (a_product c.args.env.now c.args.ty.now c.in_ok-whnf.whnf (signed c.signature_of.result) c.args.m.now c.whnf.new.m c.signature_of.new.m f (sym c.is_product.ensures.is ∙ c.if-not-is_product.false) c.signature_of.ensures.follows)

pub returns-clause-takes : goal.returns-clause-takes
returns-clause-takes g c = found_takes c.args.env.now c.in_ok-whnf.whnf c.signature_of.result c.whnf.new.m c.signature_of.new.m (sym c.is_product.ensures.is ∙ c.if-not-is_product.false) c.signature_of.ensures.follows
