-- Meters one after the other.
use Rattle.std.proofs.Common.{◌≡◌, ◌∙◌, ◌↔◌, Bool, true, false, IsTrue, ℕ, zero, suc, ◌≤◌, ◌<◌, ◌-◌, List, [], ◌∷◌, get_or, set, arith, refl}
use Rattle.std.proofs.lemmas.Bool.Decides.{nat_tests}
use Rattle.pc_rules.specs.declared.meter.Meter.{Meter}
use Rattle.pc_rules.specs.DirectedRun.{ticked, noted, one_more}
use Rattle.pc_rules.specs.Follows.{IsAfter}

pub after-refl : (m : Meter) → IsAfter m m
after-refl m = record { nest = refl; left = omega arith; uses = λ i. omega arith }

pub after-trans : (a b c : Meter) → IsAfter a b → IsAfter b c → IsAfter a c
after-trans a b c p q =
    record { nest = q.nest ∙ p.nest; left = omega (arith, p.left, q.left); uses = λ i. omega (arith, p.uses i, q.uses i) }

pub after-tick : (m n : Meter) → n.account ≡ ticked m.account → n.nest ≡ m.nest → IsAfter m n
after-tick m n e h = record { nest = h; left = rw e (omega arith); uses = λ i. rw e (omega arith) }

-- a list keeps its numbers where one of them rises
set_keeps : (xs : List ℕ) (j i v : ℕ) → get_or xs j 0 ≤ v → get_or xs i 0 ≤ get_or (set xs j v) i 0
set_keeps [] j i v h = omega arith
set_keeps (x ∷ xs) zero zero v h = h
set_keeps (x ∷ xs) zero (suc i) v h = omega arith
set_keeps (x ∷ xs) (suc j) zero v h = omega arith
set_keeps (x ∷ xs) (suc j) (suc i) v h = set_keeps xs j i v h

one_more_le : (n : ℕ) → n ≤ one_more n
one_more_le n = grind (arith, nat_tests)

pub after-note : (r : ℕ) (m n : Meter) → n.account ≡ noted r m.account → n.nest ≡ m.nest → IsAfter m n
after-note r m n e h =
    record { nest = h; left = rw e (omega arith); uses = λ i. rw e (set_keeps m.account.uses (r - 1) i _ (one_more_le _)) }

-- a test for more that fails
pub no_more : (b : Bool) (n : ℕ) → (IsTrue b ↔ (0 < n)) → b ≡ false → n ≡ 0
no_more true n h e = absurd (cc)
no_more false zero h e = refl
no_more false (suc n) h e = let t : false ≡ true = h.1 (omega arith) in absurd cc
