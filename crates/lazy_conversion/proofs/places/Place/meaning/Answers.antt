use Rattle.std.proofs.Common.{◌≡◌, ◌+◌, ◌-◌, ◌≤◌, length, refl, arith}
use Rattle.lazy_conversion.proofs.Lifting.{past_meaning}
use Rattle.lazy_conversion.proofs.places.Place.meaning.Goals as goal

pub returns-in-Past : goal.returns-in-Past
returns-in-Past c =
    let k : c.args.self.now.under ≤ c.args.i = omega arith in
    let e : c.args.i - c.args.self.now.under ≡ length c.args.self.now.env.now.items + c.from-in-Past.result = omega (arith, c.in-Past.ensures.found, c.from-in-Past.ensures) in
    record {
      is = past_meaning c.args.self.now.lifted c.args.self.now.env.now.items c.args.self.now.under c.args.i (c.args.i - c.args.self.now.under) c.from-in-Past.result refl k e;
    }
