use Rattle.std.proofs.Common.{rules, ◌+◌, refl, sym}
use Rattle.pc_terms.specs.Syntax.{Rel}
use Rattle.calculus_rules.specs.Context.{type_at, type_of}
use Rattle.pc_rules.specs.DirectedTyping.{rel_rule}
use Rattle.type_infer.proofs.Entries.{bound}
use Rattle.trees.specs.Substitution.{lift}
use Rattle.trees.proofs.Cutoffs.{lift-shift}
use Rattle.type_cert.specs.Going.{going}
use Rattle.type_cert.proofs.LeafChecks.{leaf_checks}
use Rattle.type_cert.proofs.verifier.Verifier.fits_variable.Goals as goal

pub returns-clause-checks : goal.returns-clause-checks
returns-clause-checks c h =
    let v = c.args.self.now in
    let x = c.args.ctx.now in
    let i = c.args.i in
    let t0 = c.args.trail.now in
    let t1 = c.pays_same.new.trail in
    let T = lift (i + 1) 0 c.type_of-found.result.now in
    leaf_checks v.cert.now v.env.now (going v) x (Rel i) (λ u. rel_rule x i (type_at x i) u) (λ k s. refl) v.room t0 t1
    (c.pays_same.ensures.room h) (c.pays_same.ensures.left h) (c.pays_same.ensures.account h) c.pays_same.ensures.nest (c.pays_same.ensures.passed h) (c.pays_same.ensures.there h)
    (bound x i c.in-Some.entry.now c.type_of-found.result.now T t1.meter.account c.in-Some.ensures.at (sym c.type_of-found.ensures.is) (lift-shift (i + 1) 0 c.type_of-found.result.now))
    (search rules)
