-- Counts that are raised, and counts that don't stand at their last value.
use Rattle.std.proofs.Common.{◌≡◌, ℕ, zero, suc, ◌+◌, ◌-◌, ◌^◌, ◌≤◌, ◌<◌, List, [], ◌∷◌, ◌++◌, length, take, drop, min, slice_index, slice_set, refl, sym, ap, ◌∙◌, add-one, subst, arith}
use Rattle.std.proofs.lemmas.Bool.Decides.{nat_tests}
use Rattle.std.proofs.lemmas.List.{length-set}
use Rattle.run_costs.specs.Costs.{capped, raised, differences, AreUnder, AreWithin}
use Rattle.known_types.specs.Raising.{part_raised, IsPart}

pub under_more : (us : List ℕ) (n : ℕ) → AreUnder us → n < 2 ^ 64 - 1 → AreUnder (us ++ (n ∷ []))
under_more [] n h l = (l, tt)
under_more (m ∷ us) n h l = (h.0, under_more us n h.1 l)

pub within_under : (us : List ℕ) → AreUnder us → AreWithin us
within_under [] h = tt
within_under (n ∷ us) h = (omega (arith, h.0), within_under us h.1)

capped_rises : (n k : ℕ) → n < 2 ^ 64 - 1 → n ≤ capped n k
capped_rises n k l = grind (arith, nat_tests)

-- no count falls
pub uses_rise : (ks us : List ℕ) (i : ℕ) → AreUnder us → slice_index us i ≤ slice_index (raised ks us) i
uses_rise [] us i h = omega arith
uses_rise (k ∷ ks) [] i h = omega arith
uses_rise (k ∷ ks) (n ∷ us) zero h = capped_rises n k h.0
uses_rise (k ∷ ks) (n ∷ us) (suc i) h = uses_rise ks us i h.1

raised_none : (ks : List ℕ) → raised ks [] ≡ []
raised_none [] = refl
raised_none (k ∷ ks) = refl

raised_next : (ds us : List ℕ) (i : ℕ) → i < length us → i < length ds →
    part_raised i ds us ≡ part_raised (suc i) ds (slice_set us i (capped (slice_index us i) (slice_index ds i)))
raised_next ds [] i l k = absurd (omega (arith, l))
raised_next [] (n ∷ us) i l k = absurd (omega (arith, k))
raised_next (d ∷ ds) (n ∷ us) zero l k = refl
raised_next (d ∷ ds) (n ∷ us) (suc i) l k = ap (λ xs. n ∷ xs) (raised_next ds us i (omega (arith, l)) (omega (arith, k)))

difference_at : (ms ns : List ℕ) (i : ℕ) → i < length ms → i < length ns → slice_index (differences ms ns) i ≡ slice_index ms i - slice_index ns i
difference_at [] ns i l k = absurd (omega (arith, l))
difference_at (m ∷ ms) [] i l k = absurd (omega (arith, k))
difference_at (m ∷ ms) (n ∷ ns) zero l k = refl
difference_at (m ∷ ms) (n ∷ ns) (suc i) l k = difference_at ms ns i (omega (arith, l)) (omega (arith, k))

differences_there : (ms ns : List ℕ) (i : ℕ) → i < length ms → i < length ns → i < length (differences ms ns)
differences_there [] ns i l k = absurd (omega (arith, l))
differences_there (m ∷ ms) [] i l k = absurd (omega (arith, k))
differences_there (m ∷ ms) (n ∷ ns) zero l k = omega arith
differences_there (m ∷ ms) (n ∷ ns) (suc i) l k = let h = differences_there ms ns i (omega (arith, l)) (omega (arith, k)) in omega (arith, h)

pub part_start : (ds us : List ℕ) → IsPart 0 ds us us
part_start ds us = record { is = refl; counts = refl }

-- one more count is raised
pub part_more : (before after us vs : List ℕ) (i v : ℕ) → IsPart i (differences after before) us vs → i < length us → i < length before → i < length after →
    v ≡ capped (slice_index vs i) (slice_index after i - slice_index before i) → IsPart (i + 1) (differences after before) us (slice_set vs i v)
part_more before after us vs i v p l k h e = record {
  is = p.is ∙
      raised_next (differences after before) vs i (omega (arith, l, p.counts)) (differences_there after before i h k) ∙
      ap (λ n. part_raised (suc i) (differences after before) (slice_set vs i (capped (slice_index vs i) n))) (difference_at after before i h k) ∙
      ap (λ n. part_raised (suc i) (differences after before) (slice_set vs i n)) (sym e) ∙
      ap (λ j. part_raised j (differences after before) (slice_set vs i v)) (sym (add-one i));
  counts = length-set vs i v ∙ p.counts;
}

raised_end : (ds : List ℕ) (i : ℕ) → [] ≡ part_raised i ds []
raised_end ds zero = sym (raised_none (drop 0 ds))
raised_end ds (suc i) = sym (raised_none (drop (suc i) ds))

none_dropped : (i : ℕ) → drop {A = ℕ} i [] ≡ []
none_dropped zero = refl
none_dropped (suc i) = refl

-- all counts are raised
raised_all : (ds us : List ℕ) (i : ℕ) → length us ≤ i → us ≡ part_raised i ds us
raised_all ds [] i l = raised_end ds i
raised_all ds (n ∷ us) zero l = absurd (omega (arith, l))
raised_all [] (n ∷ us) (suc i) l = ap (λ xs. n ∷ xs) (raised_all [] us i (omega (arith, l)) ∙ ap (λ ds. take i us ++ raised ds (drop i us)) (none_dropped i))
raised_all (d ∷ ds) (n ∷ us) (suc i) l = ap (λ xs. n ∷ xs) (raised_all ds us i (omega (arith, l)))

pub part_end : (ds us vs : List ℕ) (i : ℕ) → IsPart i ds us vs → length us ≤ i → vs ≡ raised ds us
part_end ds us vs i p l = raised_all ds vs i (omega (arith, l, p.counts)) ∙ sym p.is

pub capped_is : (n k : ℕ) → min (n + k) (2 ^ 64 - 1) ≡ capped n k
capped_is n k = grind (arith, nat_tests)
