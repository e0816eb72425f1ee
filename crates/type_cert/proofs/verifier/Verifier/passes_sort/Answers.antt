use Rattle.std.proofs.Common.{refl}
use Rattle.type_cert.proofs.Sorting.{infer_sort}
use Rattle.type_cert.proofs.verifier.Verifier.passes_sort.Goals as goal

pub returns-clause-infers : goal.returns-clause-infers
returns-clause-infers x h c =
    let v = x.args.self.now in
    let d = rw (x.levels-levels.ensures.value, x.graph.ensures.levels) at (x.sort_stands.ensures.declared x.if-not-sort_stands.false) in
    infer_sort v.cert.now v.env.now c v.room x.args.trail.now (record { meter = x.pays.new.trail.meter; at = x.args.trail.now.at })
    (x.pays.ensures.room h) (x.pays.ensures.left h) (x.pays.ensures.account h) x.pays.ensures.nest refl x.args.s.now d
