use Rattle.std.proofs.Common.{rules, ◌<◌, refl, arith}
use Rattle.pc_terms.specs.Syntax.{Const}
use Rattle.calculus_rules.specs.Lookups.{kept_at}
use Rattle.pc_rules.specs.DirectedTyping.{const_rule}
use Rattle.type_cert.proofs.Sorting.{infer_leaf}
use Rattle.type_cert.proofs.verifier.Verifier.constant_head.Goals as goal

pub returns-clause-infers : goal.returns-clause-infers
returns-clause-infers c x =
    let v = c.args.self.now in
    let k = c.args.name in
    let left : 0 < c.args.trail.now.meter.account.left = search rules in
    let room : 0 < v.room = search rules in
    let found = c.in_ok-found.ensures.answers c.tick-paid.new.self.account in
    infer_leaf v.cert.now v.env.now x (Const k) c.in-Ok.ty (λ u. const_rule k (kept_at v.env.now.declarations k) u) (λ j s. refl) v.room c.args.trail.now (record { meter = c.tick-paid.new.self; at = c.args.trail.now.at })
    room left c.tick-paid.ensures.account c.tick-paid.ensures.nest refl (rw c.in-Ok.ensures.ok found)
