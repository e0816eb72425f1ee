-- Chains put together: laws of `chained`.
use Rattle.std.proofs.Common.{◌≡◌, ℕ, zero, suc, ◌+◌, ◌<◌, ◌≤◌, ◌⊎◌, inl, inr, max, refl, sym, subst, arith}
use Rattle.std.proofs.lemmas.Bool.{cases_lt}
use Rattle.universe_graph.specs.Spans.{chained}

pub chained-zero : (a : ℕ) → chained a zero ≡ zero
chained-zero zero = refl
chained-zero (suc a) = refl

pub one-chained : (b : ℕ) → chained 1 b ≡ b
one-chained zero = refl
one-chained (suc b) = omega arith

pub chained-one : (a : ℕ) → chained a 1 ≡ a
chained-one zero = refl
chained-one (suc a) = omega arith

pub chained_comm : (a b : ℕ) → chained a b ≡ chained b a
chained_comm zero zero = refl
chained_comm zero (suc b) = refl
chained_comm (suc a) zero = refl
chained_comm (suc a) (suc b) = omega arith

pub chained_assoc : (a b c : ℕ) → chained (chained a b) c ≡ chained a (chained b c)
chained_assoc zero b c = refl
chained_assoc (suc a) zero c = refl
chained_assoc (suc a) (suc b) zero = refl
chained_assoc (suc a) (suc b) (suc c) = omega arith

pub chained-le : (a b c d : ℕ) → a ≤ c → b ≤ d → chained a b ≤ chained c d
chained-le zero b c d h k = omega arith
chained-le (suc a) zero c d h k = omega arith
chained-le (suc a) (suc b) zero d h k = absurd (omega arith)
chained-le (suc a) (suc b) (suc c) zero h k = absurd (omega arith)
chained-le (suc a) (suc b) (suc c) (suc d) h k = omega arith

-- two chains that are there, in numbers
pub chained-sum : (a b : ℕ) → 1 ≤ a → 1 ≤ b → chained a b + 1 ≡ a + b
chained-sum zero b h k = absurd (omega arith)
chained-sum (suc a) zero h k = absurd (omega arith)
chained-sum (suc a) (suc b) h k = omega arith

pub chained_some : (a b c : ℕ) → c < chained a b → (1 ≤ a) × (1 ≤ b)
chained_some zero b c h = absurd (omega arith)
chained_some (suc a) zero c h = absurd (omega arith)
chained_some (suc a) (suc b) c h = (omega arith, omega arith)

pub max-le : (a b c : ℕ) → a ≤ c → b ≤ c → max a b ≤ c
max-le a b c h k = omega arith

pub max_is : (a b : ℕ) → (max a b ≡ a) ⊎ (max a b ≡ b)
max_is a b = elim (cases_lt a b) [ inl h ↦ inr (omega arith) | inr h ↦ inl (omega arith) ]

pub max-chained-le : (a b c d : ℕ) → chained a c ≤ d → chained b c ≤ d → chained (max a b) c ≤ d
max-chained-le a b c d h k =
    elim (max_is a b) [ inl e ↦ subst (λ m. chained m c ≤ d) (sym e) h | inr e ↦ subst (λ m. chained m c ≤ d) (sym e) k ]

pub chained-max-le : (a b c d : ℕ) → chained a b ≤ d → chained a c ≤ d → chained a (max b c) ≤ d
chained-max-le a b c d h k =
    elim (max_is b c) [ inl e ↦ subst (λ m. chained a m ≤ d) (sym e) h | inr e ↦ subst (λ m. chained a m ≤ d) (sym e) k ]
