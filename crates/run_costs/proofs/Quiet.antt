-- Runs that note no use, of which what they take depends on no account: how they are put together.
use Rattle.std.proofs.Common.{◌≡◌, ℕ, zero, suc, ◌≤◌, ◌<◌, ◌-◌, Bool, true, false, if◌then◌else◌, List, [], ◌∷◌, refl, ap, ◌∙◌, arith}
use Rattle.pc_rules.specs.declared.meter.Account.{Account}
use Rattle.pc_rules.specs.declared.broken.Broken.{Broken}
use Rattle.pc_rules.specs.DirectedRun.{Run, End, Done, Refused, NoUnit, Nested, Act, done, refused, no_unit, too_nested, passing, paid, ticking, ticked, end_then, bind, run_all}
use Rattle.pc_rules.proofs.Fair.{paid_is}

-- what is left of w where what led from u to v is taken
abbrev pub left_over : Account → Account → Account → Account
left_over u v w = record { left = w.left - (u.left - v.left); uses = w.uses }

-- what was come to from u won no unit and noted no use
abbrev pub Falls : {A : Type 0} → End A → Account → Type 0
Falls (Done a v) u = (v.left ≤ u.left) × (v.uses ≡ u.uses)
Falls (Refused b v) u = Unit {0}
Falls NoUnit u = Unit {0}
Falls Nested u = Unit {0}

-- what was come to from u is come to from w, where w has the units
abbrev pub Again : {A : Type 0} → End A → Account → Account → End A → Type 0
Again (Done a v) u w e = u.left - v.left ≤ w.left → e ≡ Done a (left_over u v w)
Again (Refused b v) u w e = Unit {0}
Again NoUnit u w e = Unit {0}
Again Nested u w e = Unit {0}

-- f from any account, and g from accounts of fewer than `most` units
pub record IsQuiet {A : Type 0} (most : ℕ) (f g : Account → Run A) : Type 0 where
  pub falls : (u : Account) → Falls (f u).end u
  pub again : (u w : Account) → w.left < most → Again (f u).end u w (g w).end

same_left : (u w : Account) → w ≡ left_over u u w
same_left u w = let e : w.left ≡ w.left - (u.left - u.left) = omega arith in λ i. record { left = e i; uses = w.uses }

pub quiet_done : {A : Type 0} {most : ℕ} (a : A) → IsQuiet most (λ u. done a u) (λ u. done a u)
quiet_done a = record { falls = λ u. (omega arith, refl); again = λ u w l h. ap (λ x. Done a x) (same_left u w) }

pub quiet_refused : {A : Type 0} {most : ℕ} (b : Broken) → IsQuiet {A = A} most (λ u. refused b u) (λ u. refused b u)
quiet_refused b = record { falls = λ u. tt; again = λ u w l. tt }

pub quiet_passing : {most : ℕ} (beyond : Bool) → IsQuiet most (λ u. passing beyond u) (λ u. passing beyond u)
quiet_passing beyond = record { falls = λ u. (omega arith, refl); again = λ u w l h. ap (λ x. Done tt x) (same_left u w) }

pub quiet_nested : {A : Type 0} {most : ℕ} (g : Account → Run A) → IsQuiet most (λ u. too_nested) g
quiet_nested g = record { falls = λ u. tt; again = λ u w l. tt }

pub quiet_spent : {A : Type 0} {most : ℕ} (g : Account → Run A) → IsQuiet most (λ u. no_unit) g
quiet_spent g = record { falls = λ u. tt; again = λ u w l. tt }

pub quiet_if : {A : Type 0} {most : ℕ} (b : Bool) (f f' g g' : Account → Run A) → IsQuiet most f f' → IsQuiet most g g' →
    IsQuiet most (λ u. if b then f u else g u) (λ u. if b then f' u else g' u)
quiet_if true f f' g g' p q = p
quiet_if false f f' g g' p q = q

-- of accounts with fewer than no units there is nothing to be said
pub quiet_alone : {A : Type 0} {most : ℕ} (f f' g : Account → Run A) → IsQuiet most f f' → IsQuiet 0 f g
quiet_alone f f' g p = record { falls = p.falls; again = λ u w l. absurd (omega arith) }

pub quiet_less : {A : Type 0} {most : ℕ} (more : ℕ) (f f' : Account → Run A) → most ≤ more → IsQuiet more f f' → IsQuiet most f f'
quiet_less more f f' l p = record { falls = p.falls; again = λ u w h. p.again u w (omega arith) }

falls_more : {A : Type 0} (e : End A) (u v : Account) → v.left ≤ u.left → v.uses ≡ u.uses → Falls e v → Falls e u
falls_more (Done a z) u v l s h = (omega (arith, h.0), h.1 ∙ s)
falls_more (Refused b z) u v l s h = tt
falls_more NoUnit u v l s h = tt
falls_more Nested u v l s h = tt

falls_then : {A B : Type 0} {most : ℕ} (g g' : A → Account → Run B) → ((a : A) → IsQuiet most (g a) (g' a)) → (u : Account) (e : End A) → Falls e u →
    Falls (end_then e (λ a v. (g a v).end)) u
falls_then g g' q u (Done a v) h = falls_more (g a v).end u v h.0 h.1 ((q a).falls v)
falls_then g g' q u (Refused b v) h = tt
falls_then g g' q u NoUnit h = tt
falls_then g g' q u Nested h = tt

left_twice : (u v z w : Account) → v.left ≤ u.left → z.left ≤ v.left → left_over v z (left_over u v w) ≡ left_over u z w
left_twice u v z w l h =
    let e : w.left - (u.left - v.left) - (v.left - z.left) ≡ w.left - (u.left - z.left) = omega arith in λ i. record { left = e i; uses = w.uses }

again_more : {A B : Type 0} (g' : A → Account → Run B) (a : A) (u v w : Account) (e' : End A) → v.left ≤ u.left → (u.left - v.left ≤ w.left → e' ≡ Done a (left_over u v w)) →
    (e : End B) → Falls e v → Again e v (left_over u v w) (g' a (left_over u v w)).end → Again e u w (end_then e' (λ a v. (g' a v).end))
again_more g' a u v w e' l s (Done c z) f h = λ k.
    ap (λ x. end_then x (λ a v. (g' a v).end)) (s (omega (arith, f.0))) ∙ h (omega (arith, f.0)) ∙ ap (λ x. Done c x) (left_twice u v z w l f.0)
again_more g' a u v w e' l s (Refused b z) f h = tt
again_more g' a u v w e' l s NoUnit f h = tt
again_more g' a u v w e' l s Nested f h = tt

again_then : {A B : Type 0} {most : ℕ} (g g' : A → Account → Run B) → ((a : A) → IsQuiet most (g a) (g' a)) → (u w : Account) → w.left < most → (e e' : End A) → Falls e u →
    Again e u w e' → Again (end_then e (λ a v. (g a v).end)) u w (end_then e' (λ a v. (g' a v).end))
again_then g g' q u w l (Done a v) e' f h =
    again_more g' a u v w e' f.0 h (g a v).end ((q a).falls v) ((q a).again v (left_over u v w) (omega arith))
again_then g g' q u w l (Refused b v) e' f h = tt
again_then g g' q u w l NoUnit e' f h = tt
again_then g g' q u w l Nested e' f h = tt

pub quiet_bind : {A B : Type 0} {most : ℕ} (f f' : Account → Run A) (g g' : A → Account → Run B) → IsQuiet most f f' → ((a : A) → IsQuiet most (g a) (g' a)) →
    IsQuiet most (λ u. bind (f u) g) (λ u. bind (f' u) g')
unfolding bind
quiet_bind f f' g g' p q = record {
  falls = λ u. falls_then g g' q u (f u).end (p.falls u);
  again = λ u w l. again_then g g' q u w l (f u).end (f' w).end (p.falls u) (p.again u w l);
}

pub falls_ticked : {A : Type 0} (e : End A) (u : Account) → Falls e (ticked u) → Falls e u
falls_ticked (Done a v) u h = (omega (arith, h.0), h.1)
falls_ticked (Refused b v) u h = tt
falls_ticked NoUnit u h = tt
falls_ticked Nested u h = tt

left_ticked : (u v w : Account) → 0 < u.left → v.left ≤ u.left - 1 → 0 < w.left → left_over (ticked u) v (ticked w) ≡ left_over u v w
left_ticked u v w l h k =
    let e : w.left - 1 - (u.left - 1 - v.left) ≡ w.left - (u.left - v.left) = omega arith in λ i. record { left = e i; uses = w.uses }

-- a unit is taken first
pub again_ticked : {A : Type 0} (u w : Account) → 0 < u.left → (e x y : End A) → Falls e (ticked u) → (0 < w.left → y ≡ x) → (0 < w.left → Again e (ticked u) (ticked w) x) → Again e u w y
again_ticked u w l (Done a v) x y f s h = λ k.
    let p : 0 < w.left = omega (arith, f.0) in s p ∙ h p (omega (arith, f.0)) ∙ ap (λ z. Done a z) (left_ticked u v w l f.0 p)
again_ticked u w l (Refused b v) x y f s h = tt
again_ticked u w l NoUnit x y f s h = tt
again_ticked u w l Nested x y f s h = tt

paid_falls : {A : Type 0} (m : ℕ) (r : Run A) (u : Account) → Falls r.end (ticked u) → Falls (paid m r).end u
paid_falls zero r u h = tt
paid_falls (suc m) r u h = falls_ticked r.end u h

paid_again : {A : Type 0} (m : ℕ) (r r' : Run A) (u w : Account) → m ≡ u.left → Falls r.end (ticked u) → (0 < w.left → Again r.end (ticked u) (ticked w) r'.end) →
    Again (paid m r).end u w (paid w.left r').end
paid_again zero r r' u w e f h = tt
paid_again (suc m) r r' u w e f h = again_ticked u w (omega arith) r.end r'.end (paid w.left r').end f (λ l. ap (λ x. x.end) (paid_is w.left r' l)) h

-- with a unit less
pub quiet_ticking_less : {A : Type 0} {most : ℕ} (f f' : Account → Run A) → IsQuiet most f f' → IsQuiet (suc most) (λ u. ticking u f) (λ u. ticking u f')
unfolding ticking
quiet_ticking_less f f' p = record {
  falls = λ u. paid_falls u.left (f (ticked u)) u (p.falls (ticked u));
  again = λ u w l. paid_again u.left (f (ticked u)) (f' (ticked w)) u w refl (p.falls (ticked u)) (λ h. p.again (ticked u) (ticked w) (omega arith));
}

pub quiet_ticking : {A : Type 0} {most : ℕ} (f f' : Account → Run A) → IsQuiet most f f' → IsQuiet most (λ u. ticking u f) (λ u. ticking u f')
quiet_ticking {most = most} f f' p = quiet_less (suc most) (λ u. ticking u f) (λ u. ticking u f') (omega arith) (quiet_ticking_less f f' p)

-- lists of acts
pub data AreQuiet (most : ℕ) : List Act → List Act → Type 0 where
  no_act : AreQuiet most [] []
  an_act : {f f' : Act} {fs fs' : List Act} → IsQuiet most f f' → AreQuiet most fs fs' → AreQuiet most (f ∷ fs) (f' ∷ fs')

pub quiet_all : {most : ℕ} {fs fs' : List Act} → AreQuiet most fs fs' → IsQuiet most (λ u. run_all fs u) (λ u. run_all fs' u)
unfolding run_all
quiet_all no_act = quiet_done tt
quiet_all (an_act p ps) = quiet_bind _ _ _ _ p (λ a. quiet_all ps)
