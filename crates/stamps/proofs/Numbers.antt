-- No two values have the same number.
use Rattle.std.specs.Prelude.{◌≡◌, ℕ, zero, suc, ◌<◌}
use Rattle.std.proofs.Common.{refl, arith}
use base.Stored.{Gv, gnil, gnum, gcons}
use Rattle.stamps.specs.Number.{pair, number}

positive : (a b : ℕ) → 0 < pair a b
unfolding pair
positive zero b = omega arith
positive (suc a) b = omega (arith, positive a b)

pub pair-inj : (a b c d : ℕ) → pair a b ≡ pair c d → (a ≡ c) × (b ≡ d)
unfolding pair
pair-inj zero b zero d p = (refl, omega (arith, p))
pair-inj zero b (suc c) d p = absurd (omega (arith, p))
pair-inj (suc a) b zero d p = absurd (omega (arith, p))
pair-inj (suc a) b (suc c) d p = let t = pair-inj a b c d (omega (arith, p)) in (cc (t.0), t.1)

pub number-inj : (x y : Gv) → number x ≡ number y → x ≡ y
unfolding number pair
number-inj gnil gnil p = refl
number-inj gnil (gnum m) p = absurd (omega (arith, p))
number-inj gnil (gcons c d) p = absurd (omega (arith, p, positive (number c) (number d)))
number-inj (gnum n) gnil p = absurd (omega (arith, p))
number-inj (gnum n) (gnum m) p = let t = pair-inj 0 n 0 m p in cc (t.1)
number-inj (gnum n) (gcons c d) p = absurd (omega (arith, p))
number-inj (gcons a b) gnil p = absurd (omega (arith, p, positive (number a) (number b)))
number-inj (gcons a b) (gnum m) p = absurd (omega (arith, p))
number-inj (gcons a b) (gcons c d) p =
    let t = pair-inj (suc (number a)) (number b) (suc (number c)) (number d) p in
    cc (number-inj a c (omega (arith, t.0)), number-inj b d (t.1))
