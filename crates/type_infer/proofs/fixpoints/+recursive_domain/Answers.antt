use Rattle.std.proofs.Common.{◌<◌, arith}
use Rattle.type_infer.proofs.Fixing.{later_domain}
use Rattle.type_infer.proofs.fixpoints.+recursive_domain.Goals as goal

pub returns-in_ok-under-in-Lambda-clause-found : goal.returns-in_ok-under-in-Lambda-clause-found
returns-in_ok-under-in-Lambda-clause-found t c =
    let e = rw c.in-Lambda.is at c.view.ensures.is in
    let h : 0 < c.args.rarg = omega arith in
    let f = rw (c.in_ok-under-in-Lambda.ensures.longer, c.in_ok-share-in-Lambda-3.ensures.ok) at c.recursive_domain.ensures.found in
    rw (later_domain c.args.ctx.now c.args.rarg c.in-Lambda.domain c.in-Lambda.inner c.args.body.now e h) f
