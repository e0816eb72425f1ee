-- Runs that are the same where fewer than n units are left, and that never go back on units there.
use Rattle.std.proofs.Common.{◌≡◌, ℕ, zero, suc, ◌<◌, ◌-◌, Bool, true, false, if◌then◌else◌, ◌||◌, refl, sym, ap, ◌∙◌, subst, arith}
use Rattle.pc_rules.specs.declared.meter.Account.{Account}
use Rattle.pc_rules.specs.DirectedRun.{Run, End, Done, Refused, NoUnit, Nested, done, passing, paid, ticking, ticked, end_then, deep_then, bind, Leaves}
use Rattle.pc_rules.proofs.Fair.{leaves_less}
use Rattle.std.proofs.Math.Bool.{or_assoc}

pub record Agrees {A : Type 0} (n : ℕ) (f g : Account → Run A) : Type 0 where
  pub same : (u : Account) → u.left < n → f u ≡ g u
  pub falls : (u : Account) → u.left < n → Leaves (f u).end u.left

pub agrees_none : {A : Type 0} (f g : Account → Run A) → Agrees zero f g
agrees_none f g = record { same = λ u l. absurd (omega arith); falls = λ u l. absurd (omega arith) }

pub agrees_if : {A : Type 0} {n : ℕ} (b : Bool) (f f' g g' : Account → Run A) → Agrees n f f' → Agrees n g g' →
    Agrees n (λ u. if b then f u else g u) (λ u. if b then f' u else g' u)
agrees_if true f f' g g' p q = p
agrees_if false f f' g g' p q = q

pub agrees_done : {A : Type 0} (n : ℕ) (a : A) → Agrees n (λ u. done a u) (λ u. done a u)
agrees_done n a = record { same = λ u l. refl; falls = λ u l. omega arith }

-- the same runs by an equation
pub agrees_at : {A : Type 0} {n : ℕ} (f g h : Account → Run A) → Agrees n f g → ((u : Account) → g u ≡ h u) → Agrees n f h
agrees_at f g h p e = record { same = λ u l. p.same u l ∙ e u; falls = p.falls }

pub agrees_from : {A : Type 0} {n : ℕ} (f g h : Account → Run A) → ((u : Account) → f u ≡ g u) → Agrees n g h → Agrees n f h
agrees_from f g h e p = record { same = λ u l. e u ∙ p.same u l; falls = λ u l. subst (λ r. Leaves r.end u.left) (sym (e u)) (p.falls u l) }

module _ {A B : Type 0} (n : ℕ) (k k' : A → Account → Run B) (q : (a : A) → Agrees n (k a) (k' a)) where
  end_same : (e : End A) (m : ℕ) → m < n → Leaves e m → end_then e (λ a v. (k a v).end) ≡ end_then e (λ a v. (k' a v).end)
  end_same (Done a v) m l h = ap (λ r. r.end) ((q a).same v (omega arith))
  end_same (Refused b v) m l h = refl
  end_same NoUnit m l h = refl
  end_same Nested m l h = refl

  deep_same : (e : End A) (m : ℕ) → m < n → Leaves e m → deep_then e (λ a v. (k a v).deep) ≡ deep_then e (λ a v. (k' a v).deep)
  deep_same (Done a v) m l h = ap (λ r. r.deep) ((q a).same v (omega arith))
  deep_same (Refused b v) m l h = refl
  deep_same NoUnit m l h = refl
  deep_same Nested m l h = refl

  then_same : (d : Run A) (m : ℕ) → m < n → Leaves d.end m → bind d k ≡ bind d k'
  unfolding bind
  then_same d m l h = λ i. record { end = end_same d.end m l h i; deep = d.deep || deep_same d.end m l h i }

  then_falls : (e : End A) (m : ℕ) → m < n → Leaves e m → Leaves (end_then e (λ a v. (k a v).end)) m
  then_falls (Done a v) m l h = leaves_less (k a v).end v.left m h ((q a).falls v (omega arith))
  then_falls (Refused b v) m l h = h
  then_falls NoUnit m l h = tt
  then_falls Nested m l h = tt

pub agrees_bind : {A B : Type 0} (n : ℕ) (f f' : Account → Run A) (k k' : A → Account → Run B) → Agrees n f f' → ((a : A) → Agrees n (k a) (k' a)) →
    Agrees n (λ u. bind (f u) k) (λ u. bind (f' u) k')
unfolding bind
agrees_bind n f f' k k' p q = record {
  same = λ u l. then_same n k k' q (f u) u.left l (p.falls u l) ∙ ap (λ d. bind d k') (p.same u l);
  falls = λ u l. then_falls n k k' q (f u).end u.left l (p.falls u l);
}

paid_same : {A : Type 0} (m : ℕ) (r r' : Run A) → (0 < m → r ≡ r') → paid m r ≡ paid m r'
paid_same zero r r' h = refl
paid_same (suc m) r r' h = h (omega arith)

paid_falls : {A : Type 0} (m n : ℕ) (r : Run A) → (0 < m → Leaves r.end n) → Leaves (paid m r).end n
paid_falls zero n r h = tt
paid_falls (suc m) n r h = h (omega arith)

-- with a unit less
pub agrees_ticking : {A : Type 0} (n : ℕ) (f f' : Account → Run A) → Agrees n f f' → Agrees (suc n) (λ u. ticking u f) (λ u. ticking u f')
unfolding ticking
agrees_ticking n f f' p = record {
  same = λ u l. paid_same u.left (f (ticked u)) (f' (ticked u)) (λ h. p.same (ticked u) (omega arith));
  falls = λ u l. paid_falls u.left u.left (f (ticked u)) (λ h. leaves_less (f (ticked u)).end (u.left - 1) u.left (omega arith) (p.falls (ticked u) (omega arith)));
}

pub agrees_passing : (n : ℕ) (beyond : Bool) → Agrees n (λ u. passing beyond u) (λ u. passing beyond u)
agrees_passing n beyond = record { same = λ u l. refl; falls = λ u l. omega arith }

-- parts of runs that follow each other

-- a run that has passed what the rest has not, and what follows
pub passed_first : {A B : Type 0} (x : Bool) (d : Run A) (k : A → Account → Run B) (u : Account) →
    bind (record { end = d.end; deep = x || d.deep }) k ≡ bind (passing x u) (λ _ v. bind d k)
unfolding bind
passed_first x d k u = λ i. record { end = end_then d.end (λ a v. (k a v).end); deep = or_assoc x d.deep (deep_then d.end (λ a v. (k a v).deep)) i }

pub pass_same : {A : Type 0} (x : Bool) (u : Account) (k k' : Unit {0} → Account → Run A) → k tt u ≡ k' tt u → bind (passing x u) k ≡ bind (passing x u) k'
unfolding bind
pass_same x u k k' e = λ i. record { end = (e i).end; deep = x || (e i).deep }
