-- Runs of which what they take depends on no account: how they are put together.
use Rattle.std.proofs.Common.{◌≡◌, ℕ, zero, suc, ◌+◌, ◌<◌, ◌-◌, Bool, true, false, if◌then◌else◌, List, [], ◌∷◌, ◌++◌, slice_set, slice_index, refl, ap, ◌∙◌, subst, arith}
use Rattle.pc_rules.specs.declared.meter.Account.{Account}
use Rattle.pc_rules.specs.declared.broken.Broken.{Broken}
use Rattle.pc_rules.specs.DirectedRun.{Run, End, Done, Refused, NoUnit, Nested, done, refused, too_nested, made, passing, paid, ticking, ticked, noted, one_more, end_then, bind}
use Rattle.pc_rules.proofs.Following.{bind_end, ticking-more}
use Rattle.run_costs.specs.Costs.{noted_all, charged, Cost, TakesAlike}
use Rattle.run_costs.proofs.Quiet.{Falls, Again, IsQuiet, quiet_done}

abbrev pub TakesTo : {A : Type 0} → End A → Account → (Account → Run A) → Type 0
TakesTo (Done a v) u g = Cost a u v g
TakesTo (Refused b v) u g = Unit {0}
TakesTo NoUnit u g = Unit {0}
TakesTo Nested u g = Unit {0}

pub record IsTaking {A : Type 0} (f g : Account → Run A) : Type 0 where
  pub at : (u : Account) → TakesTo (f u).end u g

pub takes_alike : {A : Type 0} (f g : Account → Run A) → IsTaking f g → TakesAlike f g
takes_alike f g p u v a e = subst (λ x. TakesTo x u g) e (p.at u)

-- where no use is noted
quiet_to : {A : Type 0} (g : Account → Run A) (u : Account) (e : End A) → Falls e u → ((w : Account) → Again e u w (g w).end) → TakesTo e u g
quiet_to g u (Done a v) f h = record { units = u.left - v.left; notes = []; left = omega (arith, f.0); uses = f.1; again = h }
quiet_to g u (Refused b v) f h = tt
quiet_to g u NoUnit f h = tt
quiet_to g u Nested f h = tt

pub takes_quiet : {A : Type 0} (f g : Account → Run A) → ((most : ℕ) → IsQuiet most f g) → IsTaking f g
takes_quiet f g q = record { at = λ u. quiet_to g u (f u).end ((q 0).falls u) (λ w. (q (suc w.left)).again u w (omega arith)) }

pub takes_done : {A : Type 0} (a : A) → IsTaking (λ u. done a u) (λ u. done a u)
takes_done a = takes_quiet _ _ (λ most. quiet_done a)

pub takes_refused : {A : Type 0} (b : Broken) → IsTaking {A = A} (λ u. refused b u) (λ u. refused b u)
takes_refused b = record { at = λ u. tt }

zero_left : (w : Account) → w ≡ charged 0 [] w
zero_left w = let e : w.left ≡ w.left - 0 = omega arith in λ i. record { left = e i; uses = w.uses }

pub takes_made : {A : Type 0} (beyond : Bool) (a : A) → IsTaking (λ u. made beyond a u) (λ u. made beyond a u)
takes_made beyond a = record { at = λ u. record { units = 0; notes = []; left = omega arith; uses = refl; again = λ w l. ap (λ x. Done a x) (zero_left w) } }

pub takes_passing : (beyond : Bool) → IsTaking (λ u. passing beyond u) (λ u. passing beyond u)
takes_passing beyond = takes_made beyond tt

pub takes_nested : {A : Type 0} (g : Account → Run A) → IsTaking (λ u. too_nested) g
takes_nested g = record { at = λ u. tt }

pub takes_if : {A : Type 0} (b : Bool) (f f' g g' : Account → Run A) → IsTaking f f' → IsTaking g g' → IsTaking (λ u. if b then f u else g u) (λ u. if b then f' u else g' u)
takes_if true f f' g g' p q = p
takes_if false f f' g g' p q = q

noted_to : {A : Type 0} (r : ℕ) (f' : Account → Run A) (u : Account) (e : End A) → TakesTo e (noted r u) f' → TakesTo e u (λ w. f' (noted r w))
noted_to r f' u (Done a v) h = record { units = h.units; notes = r ∷ h.notes; left = h.left; uses = h.uses; again = λ w l. h.again (noted r w) l }
noted_to r f' u (Refused b v) h = tt
noted_to r f' u NoUnit h = tt
noted_to r f' u Nested h = tt

pub takes_noted : {A : Type 0} (r : ℕ) (f f' : Account → Run A) → IsTaking f f' → IsTaking (λ u. f (noted r u)) (λ u. f' (noted r u))
takes_noted r f f' p = record { at = λ u. noted_to r f' u (f (noted r u)).end (p.at (noted r u)) }

-- notes one after the other
noted_append : (xs ys us : List ℕ) → noted_all ys (noted_all xs us) ≡ noted_all (xs ++ ys) us
noted_append [] ys us = refl
noted_append (x ∷ xs) ys us = noted_append xs ys (slice_set us (x - 1) (one_more (slice_index us (x - 1))))

charged_twice : (k l : ℕ) (xs ys : List ℕ) (w : Account) → charged l ys (charged k xs w) ≡ charged (k + l) (xs ++ ys) w
charged_twice k l xs ys w =
    let e : w.left - k - l ≡ w.left - (k + l) = omega arith in let h = noted_append xs ys w.uses in λ i. record { left = e i; uses = h i }

then_to : {A B : Type 0} (f' : Account → Run A) (g' : A → Account → Run B) (a : A) (u v : Account) → Cost a u v f' → (e : End B) → TakesTo e v (g' a) → TakesTo e u (λ w. bind (f' w) g')
then_to f' g' a u v p (Done c z) q = record {
  units = p.units + q.units;
  notes = p.notes ++ q.notes;
  left = omega (arith, p.left, q.left);
  uses = q.uses ∙ ap (λ us. noted_all q.notes us) p.uses ∙ noted_append p.notes q.notes u.uses;
  again = λ w l.
      bind_end (f' w) g' a (charged p.units p.notes w) (p.again w (omega arith)) ∙ q.again (charged p.units p.notes w) (omega arith) ∙
      ap (λ x. Done c x) (charged_twice p.units q.units p.notes q.notes w);
}
then_to f' g' a u v p (Refused b z) q = tt
then_to f' g' a u v p NoUnit q = tt
then_to f' g' a u v p Nested q = tt

bind_to : {A B : Type 0} (f' : Account → Run A) (g g' : A → Account → Run B) → ((a : A) → IsTaking (g a) (g' a)) → (u : Account) (e : End A) → TakesTo e u f' →
    TakesTo (end_then e (λ a v. (g a v).end)) u (λ w. bind (f' w) g')
bind_to f' g g' q u (Done a v) h = then_to f' g' a u v h (g a v).end ((q a).at v)
bind_to f' g g' q u (Refused b v) h = tt
bind_to f' g g' q u NoUnit h = tt
bind_to f' g g' q u Nested h = tt

pub takes_bind : {A B : Type 0} (f f' : Account → Run A) (g g' : A → Account → Run B) → IsTaking f f' → ((a : A) → IsTaking (g a) (g' a)) →
    IsTaking (λ u. bind (f u) g) (λ u. bind (f' u) g')
unfolding bind
takes_bind f f' g g' p q = record { at = λ u. bind_to f' g g' q u (f u).end (p.at u) }

charged_ticked : (k : ℕ) (rs : List ℕ) (w : Account) → charged k rs (ticked w) ≡ charged (suc k) rs w
charged_ticked k rs w = let e : w.left - 1 - k ≡ w.left - suc k = omega arith in λ i. record { left = e i; uses = noted_all rs w.uses }

ticked_to : {A : Type 0} (f' : Account → Run A) (u : Account) → 0 < u.left → (e : End A) → TakesTo e (ticked u) f' → TakesTo e u (λ w. ticking w f')
ticked_to f' u l (Done a v) h = record {
  units = suc h.units;
  notes = h.notes;
  left = omega (arith, h.left);
  uses = h.uses;
  again = λ w k.
      ap (λ x. x.end) (ticking-more w f' (omega arith)) ∙ h.again (ticked w) (omega arith) ∙ ap (λ x. Done a x) (charged_ticked h.units h.notes w);
}
ticked_to f' u l (Refused b v) h = tt
ticked_to f' u l NoUnit h = tt
ticked_to f' u l Nested h = tt

paid_to : {A : Type 0} (m : ℕ) (r : Run A) (f' : Account → Run A) (u : Account) → m ≡ u.left → TakesTo r.end (ticked u) f' → TakesTo (paid m r).end u (λ w. ticking w f')
paid_to zero r f' u e h = tt
paid_to (suc m) r f' u e h = ticked_to f' u (omega arith) r.end h

pub takes_ticking : {A : Type 0} (f f' : Account → Run A) → IsTaking f f' → IsTaking (λ u. ticking u f) (λ u. ticking u f')
unfolding ticking
takes_ticking f f' p = record { at = λ u. paid_to u.left (f (ticked u)) f' u refl (p.at (ticked u)) }
