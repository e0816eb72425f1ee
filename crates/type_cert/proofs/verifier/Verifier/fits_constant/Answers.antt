use Rattle.std.proofs.Common.{rules, refl}
use Rattle.pc_terms.specs.Syntax.{Const}
use Rattle.calculus_rules.specs.Lookups.{kept_at}
use Rattle.pc_rules.specs.DirectedTyping.{const_rule}
use Rattle.type_cert.specs.Going.{going}
use Rattle.type_cert.proofs.LeafChecks.{leaf_checks}
use Rattle.type_cert.proofs.verifier.Verifier.fits_constant.Goals as goal

pub returns-clause-checks : goal.returns-clause-checks
returns-clause-checks c h =
    let v = c.args.self.now in
    let t1 = c.pays_same.new.trail in
    leaf_checks v.cert.now v.env.now (going v) c.args.ctx.now (Const c.args.name) (λ u. const_rule c.args.name (kept_at v.env.now.declarations c.args.name) u) (λ k s. refl) v.room c.args.trail.now t1
    (c.pays_same.ensures.room h) (c.pays_same.ensures.left h) (c.pays_same.ensures.account h) c.pays_same.ensures.nest (c.pays_same.ensures.passed h) (c.pays_same.ensures.there h)
    (c.in-Some.ensures.answers t1.meter.account) (search rules)
