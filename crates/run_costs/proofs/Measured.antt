-- What a run took is seen from its accounts.
use Rattle.std.proofs.Common.{◌≡◌, ℕ, zero, suc, ◌+◌, ◌-◌, ◌^◌, ◌≤◌, ◌<◌, ◌==◌, if◌then◌else◌, List, [], ◌∷◌, length, slice_index, slice_set, refl, sym, ap, ◌∙◌, subst, arith}
use Rattle.std.proofs.lemmas.Bool.Decides.{nat_tests}
use Rattle.pc_rules.specs.declared.meter.Account.{Account}
use Rattle.pc_rules.specs.DirectedRun.{Run, Done, one_more}
use Rattle.run_costs.specs.Costs.{noted_all, charged, Cost, TakesAlike, capped, raised, differences, AreUnder, AreWithin, spent, IsMeasured}

-- a count that is noted so often
abbrev repeated : ℕ → ℕ → ℕ
repeated zero n = n
repeated (suc k) n = repeated k (one_more n)

-- how often the use at a place is noted
abbrev is_at : ℕ → ℕ → ℕ → ℕ
is_at j r n = if r - 1 == j then suc n else n

abbrev times : ℕ → List ℕ → ℕ
times j [] = 0
times j (r ∷ rs) = is_at j r (times j rs)

-- counts, the first of which is at place j, with notes
abbrev raised_by : List ℕ → ℕ → List ℕ → List ℕ
raised_by rs j [] = []
raised_by rs j (n ∷ ns) = repeated (times j rs) n ∷ raised_by rs (suc j) ns

is_there : (j r n : ℕ) → r - 1 ≡ j → is_at j r n ≡ suc n
is_there j r n e = grind (arith, nat_tests)

is_elsewhere : (j r n : ℕ) → (r - 1 ≡ j → ⊥) → is_at j r n ≡ n
is_elsewhere j r n e = grind (arith, nat_tests)

cons_is : (m n : ℕ) (ms ns : List ℕ) → m ≡ n → ms ≡ ns → m ∷ ms ≡ n ∷ ns
cons_is m n ms ns e h = λ i. e i ∷ h i

raised_none : (j : ℕ) (us : List ℕ) → us ≡ raised_by [] j us
raised_none j [] = refl
raised_none j (n ∷ ns) = cons_is n n ns (raised_by [] (suc j) ns) refl (raised_none (suc j) ns)

raised_other : (r : ℕ) (rs : List ℕ) (j : ℕ) (us : List ℕ) → r - 1 < j → raised_by rs j us ≡ raised_by (r ∷ rs) j us
raised_other r rs j [] l = refl
raised_other r rs j (n ∷ ns) l =
    cons_is _ _ _ _ (ap (λ k. repeated k n) (sym (is_elsewhere j r (times j rs) (λ e. omega arith)))) (raised_other r rs (suc j) ns (omega arith))

raised_one : (r : ℕ) (rs : List ℕ) (j p : ℕ) (us : List ℕ) → r - 1 ≡ j + p →
    raised_by rs j (slice_set us p (one_more (slice_index us p))) ≡ raised_by (r ∷ rs) j us
raised_one r rs j p [] e = refl
raised_one r rs j zero (n ∷ ns) e =
    cons_is _ _ _ _ (ap (λ k. repeated k n) (sym (is_there j r (times j rs) (omega arith)))) (raised_other r rs (suc j) ns (omega arith))
raised_one r rs j (suc p) (n ∷ ns) e =
    cons_is _ _ _ _ (ap (λ k. repeated k n) (sym (is_elsewhere j r (times j rs) (λ h. omega arith)))) (raised_one r rs (suc j) p ns (omega arith))

noted_is : (rs us : List ℕ) → noted_all rs us ≡ raised_by rs 0 us
noted_is [] us = raised_none 0 us
noted_is (r ∷ rs) us = noted_is rs (slice_set us (r - 1) (one_more (slice_index us (r - 1)))) ∙ raised_one r rs 0 (r - 1) us (omega arith)

one_more_within : (n : ℕ) → n ≤ 2 ^ 64 - 1 → one_more n ≤ 2 ^ 64 - 1
one_more_within n l = grind (arith, nat_tests)

capped_none : (n : ℕ) → n ≤ 2 ^ 64 - 1 → n ≡ capped n 0
capped_none n l = grind (arith, nat_tests)

capped_more : (n k : ℕ) → n ≤ 2 ^ 64 - 1 → capped (one_more n) k ≡ capped n (suc k)
capped_more n k l = grind (arith, nat_tests)

repeated_is : (k n : ℕ) → n ≤ 2 ^ 64 - 1 → repeated k n ≡ capped n k
repeated_is zero n l = capped_none n l
repeated_is (suc k) n l = repeated_is k (one_more n) (one_more_within n l) ∙ capped_more n k l

one_more_rises : (n : ℕ) → n ≤ one_more n
one_more_rises n = grind (arith, nat_tests)

repeated_rises : (k n : ℕ) → n ≤ repeated k n
repeated_rises zero n = omega arith
repeated_rises (suc k) n = omega (arith, one_more_rises n, repeated_rises k (one_more n))

capped_under : (n k : ℕ) → capped n k < 2 ^ 64 - 1 → capped n k ≡ n + k
capped_under n k l = grind (arith, nat_tests)

-- where a count doesn't stand still, how often it was noted is seen
times_seen : (k n : ℕ) → repeated k n < 2 ^ 64 - 1 → repeated k n - n ≡ k
times_seen k n l =
    let w : n ≤ 2 ^ 64 - 1 = omega (arith, repeated_rises k n) in
    let e = repeated_is k n w in
    let h = capped_under n k (subst (λ x. x < 2 ^ 64 - 1) e l) in omega (arith, e, h)

raised_again : (rs : List ℕ) (j : ℕ) (us ws : List ℕ) → length us ≡ length ws → AreUnder (raised_by rs j us) → AreWithin ws →
    raised_by rs j ws ≡ raised (differences (raised_by rs j us) us) ws
raised_again rs j [] [] e h w = refl
raised_again rs j [] (m ∷ ms) e h w = absurd (omega (arith, e))
raised_again rs j (n ∷ ns) [] e h w = refl
raised_again rs j (n ∷ ns) (m ∷ ms) e h w =
    cons_is _ _ _ _ (repeated_is (times j rs) m w.0 ∙ ap (λ k. capped m k) (sym (times_seen (times j rs) n h.0))) (raised_again rs (suc j) ns ms (omega (arith, e)) h.1 w.1)

notes_seen : (rs us vs ws : List ℕ) → vs ≡ noted_all rs us → length us ≡ length ws → AreUnder vs → AreWithin ws → noted_all rs ws ≡ raised (differences vs us) ws
notes_seen rs us vs ws e l h w =
    let p = e ∙ noted_is rs us in
    noted_is rs ws ∙ raised_again rs 0 us ws l (subst (λ x. AreUnder x) p h) w ∙ ap (λ x. raised (differences x us) ws) (sym p)

spent_is : (k d : ℕ) (rs ds : List ℕ) (w : Account) → k ≡ d → noted_all rs w.uses ≡ raised ds w.uses → charged k rs w ≡ spent d ds w
spent_is k d rs ds w e h = let l : w.left - k ≡ w.left - d = ap (λ x. w.left - x) e in λ i. record { left = l i; uses = h i }

cost_seen : {A : Type 0} (a : A) (u v : Account) (g : Account → Run A) → Cost a u v g → (w : Account) → AreUnder v.uses → AreWithin w.uses → length u.uses ≡ length w.uses →
    u.left - v.left ≤ w.left → (g w).end ≡ Done a (spent (u.left - v.left) (differences v.uses u.uses) w)
cost_seen a u v g c w h k l m =
    let e : c.units ≡ u.left - v.left = omega (arith, c.left) in
    c.again w (omega (arith, e)) ∙
    ap (λ x. Done a x) (spent_is c.units (u.left - v.left) c.notes (differences v.uses u.uses) w e (notes_seen c.notes u.uses v.uses w.uses c.uses l h k))

pub measured : {A : Type 0} (f g : Account → Run A) → TakesAlike f g → IsMeasured f g
measured f g p u v w a e h k l m = cost_seen a u v g (p u v a e) w h k l m
