use Rattle.std.proofs.Common.{refl}
use Rattle.type_cert.proofs.Sorting.{infer_family}
use Rattle.type_cert.proofs.verifier.Verifier.passes_family.Goals as goal

pub returns-in-Some-clause-infers : goal.returns-in-Some-clause-infers
returns-in-Some-clause-infers x h =
    let v = x.args.self.now in (
      x.in-Some.field-0.now,
      λ c. infer_family v.cert.now v.env.now c v.room x.args.trail.now (record { meter = x.pays.new.trail.meter; at = x.args.trail.now.at })
          (x.pays.ensures.room h) (x.pays.ensures.left h) (x.pays.ensures.account h) x.pays.ensures.nest refl x.args.id x.in-Some.field-0.now x.in-Some.ensures.answers,
    )
