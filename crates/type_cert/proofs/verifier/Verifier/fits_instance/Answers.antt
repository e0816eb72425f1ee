use Rattle.std.proofs.Common.{rules, refl}
use Rattle.type_cert.specs.Going.{going, inferring}
use Rattle.type_cert.proofs.LeafChecks.{fits_there}
use Rattle.type_cert.proofs.verifier.Verifier.fits_instance.Goals as goal

pub returns-clause-fits : goal.returns-clause-fits
returns-clause-fits c h x =
    let v = c.args.self.now in
    fits_there v.cert.now v.env.now (inferring v) (going v) x (search rules) (search rules) refl refl
