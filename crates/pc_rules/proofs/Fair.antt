-- Runs that never go back on units, and of which more units change no result: how they are put together.
use Rattle.std.proofs.Common.{◌≡◌, ℕ, zero, suc, ◌+◌, ◌≤◌, ◌<◌, ◌-◌, Bool, true, false, if◌then◌else◌, List, [], ◌∷◌, refl, sym, ap, subst, arith}
use Rattle.pc_rules.specs.declared.meter.Account.{Account}
use Rattle.pc_rules.specs.declared.broken.Broken.{Broken}
use Rattle.pc_rules.specs.DirectedRun.{Run, End, Done, Refused, NoUnit, Nested, Act, done, refused, no_unit, too_nested, made, passing, paid, ticking, ticked, noted, end_then, bind, run_all, Leaves}
use Rattle.pc_rules.specs.DirectedLaws.{more, Stays, IsSteady}

-- f with n units at most, and g with k more
pub record IsFair {A : Type 0} (n k : ℕ) (f g : Account → Run A) : Type 0 where
  pub falls : (u : Account) → Leaves (f u).end u.left
  pub stays : (u : Account) → u.left ≤ n → Stays k (f u).end (g (more k u)).end

pub steady : {A : Type 0} (f : Account → Run A) → ((n k : ℕ) → IsFair n k f f) → IsSteady f
steady f h = record { falls = λ u. (h u.left 0).falls u; stays = λ k u. (h u.left k).stays u (omega arith) }

pub fair_done : {A : Type 0} {n k : ℕ} (a : A) → IsFair n k (λ u. done a u) (λ u. done a u)
fair_done a = record { falls = λ u. omega arith; stays = λ u l. refl }

pub fair_refused : {A : Type 0} {n k : ℕ} (b : Broken) → IsFair {A = A} n k (λ u. refused b u) (λ u. refused b u)
fair_refused b = record { falls = λ u. omega arith; stays = λ u l. refl }

pub fair_made : {A : Type 0} {n k : ℕ} (beyond : Bool) (a : A) → IsFair n k (λ u. made beyond a u) (λ u. made beyond a u)
fair_made beyond a = record { falls = λ u. omega arith; stays = λ u l. refl }

pub fair_passing : {n k : ℕ} (beyond : Bool) → IsFair n k (λ u. passing beyond u) (λ u. passing beyond u)
fair_passing beyond = record { falls = λ u. omega arith; stays = λ u l. refl }

pub fair_nested : {A : Type 0} {n k : ℕ} → IsFair {A = A} n k (λ u. too_nested) (λ u. too_nested)
fair_nested = record { falls = λ u. tt; stays = λ u l. refl }

pub fair_spent : {A : Type 0} {n k : ℕ} (g : Account → Run A) → IsFair n k (λ u. no_unit) g
fair_spent g = record { falls = λ u. tt; stays = λ u l. tt }

pub fair_if : {A : Type 0} {n k : ℕ} (b : Bool) (f f' g g' : Account → Run A) → IsFair n k f f' → IsFair n k g g' →
    IsFair n k (λ u. if b then f u else g u) (λ u. if b then f' u else g' u)
fair_if true f f' g g' p q = p
fair_if false f f' g g' p q = q

pub fair_noted : {A : Type 0} {n k : ℕ} (r : ℕ) (f f' : Account → Run A) → IsFair n k f f' → IsFair n k (λ u. f (noted r u)) (λ u. f' (noted r u))
fair_noted r f f' p = record { falls = λ u. p.falls (noted r u); stays = λ u l. p.stays (noted r u) l }

pub leaves_less : {A : Type 0} (e : End A) (m n : ℕ) → m ≤ n → Leaves e m → Leaves e n
leaves_less (Done a v) m n l h = omega arith
leaves_less (Refused b v) m n l h = omega arith
leaves_less NoUnit m n l h = tt
leaves_less Nested m n l h = tt

leaves_then : {A B : Type 0} (g : A → Account → Run B) → ((a : A) (v : Account) → Leaves (g a v).end v.left) → (m : ℕ) (e : End A) → Leaves e m →
    Leaves (end_then e (λ a v. (g a v).end)) m
leaves_then g q m (Done a v) h = leaves_less (g a v).end v.left m h (q a v)
leaves_then g q m (Refused b v) h = h
leaves_then g q m NoUnit h = tt
leaves_then g q m Nested h = tt

stays_then : {A B : Type 0} {n k : ℕ} (g g' : A → Account → Run B) → ((a : A) → IsFair n k (g a) (g' a)) → (m : ℕ) → m ≤ n → (e e' : End A) → Leaves e m →
    Stays k e e' → Stays k (end_then e (λ a v. (g a v).end)) (end_then e' (λ a v. (g' a v).end))
stays_then {k = k} g g' q m l (Done a v) e' h s = subst (λ x. Stays k (g a v).end (end_then x (λ a v. (g' a v).end))) (sym s) ((q a).stays v (omega arith))
stays_then g g' q m l (Refused b v) e' h s = ap (λ x. end_then x (λ a v. (g' a v).end)) s
stays_then g g' q m l NoUnit e' h s = tt
stays_then g g' q m l Nested e' h s = ap (λ x. end_then x (λ a v. (g' a v).end)) s

pub fair_bind : {A B : Type 0} {n k : ℕ} (f f' : Account → Run A) (g g' : A → Account → Run B) → IsFair n k f f' → ((a : A) → IsFair n k (g a) (g' a)) →
    IsFair n k (λ u. bind (f u) g) (λ u. bind (f' u) g')
unfolding bind
fair_bind {k = k} f f' g g' p q = record {
  falls = λ u. leaves_then g (λ a. (q a).falls) u.left (f u).end (p.falls u);
  stays = λ u l. stays_then g g' q u.left l (f u).end (f' (more k u)).end (p.falls u) (p.stays u l);
}

pub paid_is : {A : Type 0} (m : ℕ) (r : Run A) → 0 < m → paid m r ≡ r
paid_is zero r l = absurd (omega arith)
paid_is (suc m) r l = refl

paid_leaves : {A : Type 0} (m n : ℕ) (r : Run A) → Leaves r.end n → Leaves (paid m r).end n
paid_leaves zero n r h = tt
paid_leaves (suc m) n r h = h

paid_stays : {A : Type 0} (m k : ℕ) (r r' : Run A) → (0 < m → Stays k r.end r'.end) → Stays k (paid m r).end (paid (m + k) r').end
paid_stays zero k r r' h = tt
paid_stays (suc m) k r r' h = subst (λ x. Stays k r.end x.end) (sym (paid_is (suc m + k) r' (omega arith))) (h (omega arith))

ticked_more : (k : ℕ) (u : Account) → 0 < u.left → more k (ticked u) ≡ ticked (more k u)
ticked_more k u l = let e : u.left - 1 + k ≡ u.left + k - 1 = omega arith in λ i. record { left = e i; uses = u.uses }

-- with a unit less
pub fair_ticking_less : {A : Type 0} {n k : ℕ} (f f' : Account → Run A) → IsFair n k f f' → IsFair (suc n) k (λ u. ticking u f) (λ u. ticking u f')
unfolding ticking
fair_ticking_less {k = k} f f' p = record {
  falls = λ u. paid_leaves u.left u.left (f (ticked u)) (leaves_less (f (ticked u)).end (u.left - 1) u.left (omega arith) (p.falls (ticked u)));
  stays = λ u l. paid_stays u.left k (f (ticked u)) (f' (ticked (more k u)))
      (λ h. subst (λ x. Stays k (f (ticked u)).end (f' x).end) (ticked_more k u h) (p.stays (ticked u) (omega arith)));
}

pub fair_less : {A : Type 0} {n k : ℕ} (m : ℕ) (f f' : Account → Run A) → n ≤ m → IsFair m k f f' → IsFair n k f f'
fair_less m f f' l p = record { falls = p.falls; stays = λ u h. p.stays u (omega arith) }

pub fair_ticking : {A : Type 0} {n k : ℕ} (f f' : Account → Run A) → IsFair n k f f' → IsFair n k (λ u. ticking u f) (λ u. ticking u f')
fair_ticking {n = n} f f' p = fair_less (suc n) (λ u. ticking u f) (λ u. ticking u f') (omega arith) (fair_ticking_less f f' p)

-- lists of acts
pub data AreFair (n k : ℕ) : List Act → List Act → Type 0 where
  no_act : AreFair n k [] []
  an_act : {f f' : Act} {fs fs' : List Act} → IsFair n k f f' → AreFair n k fs fs' → AreFair n k (f ∷ fs) (f' ∷ fs')

pub fair_all : {n k : ℕ} {fs fs' : List Act} → AreFair n k fs fs' → IsFair n k (λ u. run_all fs u) (λ u. run_all fs' u)
unfolding run_all
fair_all no_act = fair_done tt
fair_all (an_act p ps) = fair_bind _ _ _ _ p (λ a. fair_all ps)

-- what a run leaves, from one account: at most the units that it begins with

pub same_left : (u : Account) → u.left ≤ u.left
same_left u = omega arith

pub leaves_bind : {A B : Type 0} (d : Run A) (k : A → Account → Run B) (n : ℕ) → Leaves d.end n → ((a : A) (v : Account) → Leaves (k a v).end v.left) → Leaves (bind d k).end n
unfolding bind
leaves_bind d k n h q = leaves_then k q n d.end h

pub leaves_if : {A : Type 0} (b : Bool) (p q : Run A) (n : ℕ) → Leaves p.end n → Leaves q.end n → Leaves (if b then p else q).end n
leaves_if true p q n h g = h
leaves_if false p q n h g = g

pub leaves_ticking : {A : Type 0} (u : Account) (go : Account → Run A) → ((v : Account) → Leaves (go v).end v.left) → Leaves (ticking u go).end u.left
unfolding ticking
leaves_ticking u go h = paid_leaves u.left u.left (go (ticked u)) (leaves_less (go (ticked u)).end (u.left - 1) u.left (omega arith) (h (ticked u)))

pub leaves_all : (acts : List Act) → AreFair 0 0 acts acts → (u : Account) → Leaves (run_all acts u).end u.left
leaves_all acts ps u = (fair_all ps).falls u

pub ruleset leaving_runs = (same_left, leaves_bind, leaves_if, leaves_ticking, leaves_all, no_act, an_act)
