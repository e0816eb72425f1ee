-- What an outcome that gives something gives.
use Rattle.std.proofs.Common.{◌≡◌, ap}
use Rattle.pc_rules.specs.declared.meter.Account.{Account}
use Rattle.pc_rules.specs.DirectedPlaces.{Outcome, Gives}

gives_or : {A : Type 0} → Outcome A → A → A
gives_or (Gives a u) o = a
gives_or _ o = o

pub given_value : {A : Type 0} {a b : A} {u v : Account} → Gives a u ≡ Gives b v → a ≡ b
unfolding gives_or
given_value {a = a} e = ap (λ o. gives_or o a) e
