use Rattle.std.proofs.Common.{◌≡◌, ◌-◌, None, length, arith, subst as along}
use Rattle.std.proofs.lemmas.Bool.{false≢true}
use Rattle.calculus_rules.specs.Context.{values, value_at}
use Rattle.reduce_machine.proofs.quick.is_free.Goals as goal

pub returns-in-Past : goal.returns-in-Past
returns-in-Past c =
    let e : c.in-Past.j ≡ c.args.i - length c.args.bindings.now.items = omega (arith, c.in-Past.ensures.found) in
    record {
      shown = λ h. omega (arith, c.in-Past.ensures.found);
      is = λ h. along (λ n. value_at (values c.args.ctx.now) n ≡ None) e (c.is_assumed.ensures.is h);
    }

pub returns-in-Item : goal.returns-in-Item
returns-in-Item c = record { shown = λ h. absurd (false≢true h); is = λ h. absurd (false≢true h) }
