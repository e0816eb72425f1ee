use Rattle.lazy_conversion.proofs.ValueKinds.{product_read, lambda_read, other_kind}
use Rattle.lazy_conversion.proofs.shapes.head_shape.Goals as goal

pub returns-in-Prod : goal.returns-in-Prod
returns-in-Prod c =
    let e = rw c.in-Prod.is at c.view.ensures.is in
    record { is = product_read c.args.l.now _ _ e }

pub returns-in-Lambda : goal.returns-in-Lambda
returns-in-Lambda c =
    let e = rw c.in-Lambda.is at c.view.ensures.is in
    record { is = lambda_read c.args.l.now _ _ e }

pub returns-in_default : goal.returns-in_default
returns-in_default c = record { is = other_kind c.args.l.now c.view.result.now c.view.ensures.is c.requires c.in_default.not-Sort c.in_default.not-Prod c.in_default.not-Lambda }
