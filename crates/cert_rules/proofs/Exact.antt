-- Directed rules that end with a result end with it as well wherever there are as many units as they took, and take as many there, whatever
-- uses have been noted.
use Rattle.std.proofs.Common.{◌≡◌, ◌∙◌, ℕ, zero, suc, ◌+◌, ◌-◌, ◌≤◌, ◌<◌, Bool, true, false, if◌then◌else◌, List, [], ◌∷◌, refl, sym, ap, arith}
use Rattle.pc_terms.specs.Syntax.{Term}
use Rattle.pc_rules.specs.declared.broken.Broken.{Broken}
use Rattle.pc_rules.specs.declared.meter.Account.{Account}
use Rattle.pc_rules.specs.DirectedRun as run
use Rattle.pc_rules.specs.DirectedRun.{Run, Act, no_unit, ticked, paid, ticking, bind, run_all, make}
use Rattle.rule_laws.proofs.Runs.{bind_both, ticking_done, refused_done, unit_done, done_value}

-- the account of an end
account_or : {A : Type 0} → run.End A → Account → Account
account_or (run.Done a u) o = u
account_or (run.Refused b u) o = u
account_or run.NoUnit o = o
account_or run.Nested o = o

pub done_account : {A : Type 0} {a b : A} {u v : Account} → run.Done a u ≡ run.Done b v → u ≡ v
unfolding account_or
done_account {u = u} e = ap (λ r. account_or r u) e

-- with w in place of u, and j steps at most of what looks for a mark
abbrev pub EndsAlike : {A : Type 0} → (Account → Run A) → Account → A → Account → Account → Type 0
EndsAlike {A} g u a v w = (x : Account) × ((g w).end ≡ run.Done a x) × (w.left + v.left ≡ x.left + u.left)

pub record IsExact {A : Type 0} (j : ℕ) (f g : Account → Run A) : Type 0 where
  pub falls : (u : Account) (a : A) (v : Account) → (f u).end ≡ run.Done a v → v.left ≤ u.left
  pub alike : (u : Account) (a : A) (v : Account) → (f u).end ≡ run.Done a v → (w : Account) → u.left ≤ w.left + v.left → u.left ≤ j + v.left →
      EndsAlike g u a v w

-- whatever units there are, it ends with this result, or never with one
still_falls : {A : Type 0} (f : Account → Run A) (a : A) → ((u : Account) → (f u).end ≡ run.Done a u) → (u : Account) (b : A) (v : Account) →
    (f u).end ≡ run.Done b v → v.left ≤ u.left
still_falls f a h u b v e = let l : u.left ≡ v.left = ap (λ x. x.left) (done_account (sym (h u) ∙ e)) in omega arith

still_alike : {A : Type 0} (f : Account → Run A) (a : A) → ((u : Account) → (f u).end ≡ run.Done a u) → (u : Account) (b : A) (v : Account) →
    (f u).end ≡ run.Done b v → (w : Account) → EndsAlike f u b v w
still_alike f a h u b v e w =
    let l : u.left ≡ v.left = ap (λ x. x.left) (done_account (sym (h u) ∙ e)) in
    (w, h w ∙ ap (λ x. run.Done x w) (done_value (sym (h u) ∙ e)), omega arith)

pub exact_still : {A : Type 0} {j : ℕ} (f : Account → Run A) (a : A) → ((u : Account) → (f u).end ≡ run.Done a u) → IsExact j f f
exact_still f a h = record { falls = still_falls f a h; alike = λ u b v e w l r. still_alike f a h u b v e w }

pub exact_never : {A : Type 0} {j : ℕ} (f g : Account → Run A) → ((u : Account) (a : A) (v : Account) → (f u).end ≡ run.Done a v → ⊥) → IsExact j f g
exact_never f g h = record { falls = λ u a v e. absurd (h u a v e); alike = λ u a v e w l r. absurd (h u a v e) }

pub exact_done : {A : Type 0} {j : ℕ} (a : A) → IsExact j (λ u. run.done a u) (λ u. run.done a u)
exact_done a = exact_still (λ u. run.done a u) a (λ u. refl)

pub exact_refused : {A : Type 0} {j : ℕ} (b : Broken) → IsExact {A = A} j (λ u. run.refused b u) (λ u. run.refused b u)
exact_refused {A} b = exact_never {A = A} (λ u. run.refused b u) (λ u. run.refused b u) (λ u a v e. refused_done e)

pub exact_made : {A : Type 0} {j : ℕ} (beyond : Bool) (a : A) → IsExact j (λ u. run.made beyond a u) (λ u. run.made beyond a u)
exact_made beyond a = exact_still (λ u. run.made beyond a u) a (λ u. refl)

pub exact_make : {j : ℕ} (t : Term) → IsExact j (λ u. make t u) (λ u. make t u)
exact_make t = exact_still (λ u. make t u) t (λ u. refl)

pub exact_passing : {j : ℕ} (beyond : Bool) → IsExact j (λ u. run.passing beyond u) (λ u. run.passing beyond u)
exact_passing beyond = exact_still (λ u. run.passing beyond u) tt (λ u. refl)

pub exact_spent : {A : Type 0} {j : ℕ} (g : Account → Run A) → IsExact j (λ u. no_unit) g
exact_spent g = exact_never (λ u. no_unit) g (λ u a v e. unit_done e)

pub exact_if : {A : Type 0} {j : ℕ} (b : Bool) (f f' g g' : Account → Run A) → IsExact j f f' → IsExact j g g' →
    IsExact j (λ u. if b then f u else g u) (λ u. if b then f' u else g' u)
exact_if true f f' g g' p q = p
exact_if false f f' g g' p q = q

pub bind_done : {A B : Type 0} (d : Run A) (k : A → Account → Run B) (a : A) (x : Account) {b : B} {y : Account} → d.end ≡ run.Done a x → (k a x).end ≡ run.Done b y →
    (bind d k).end ≡ run.Done b y
unfolding bind
bind_done d k a x e e' = ap (λ r. run.end_then r (λ a u. (k a u).end)) e ∙ e'

module _ {A B : Type 0} {j : ℕ} (f f' : Account → Run A) (k k' : A → Account → Run B) (p : IsExact j f f') (q : (a : A) → IsExact j (k a) (k' a)) where
  bind_falls : (u : Account) (b : B) (v : Account) → (bind (f u) k).end ≡ run.Done b v → v.left ≤ u.left
  bind_falls u b v h =
      let s = bind_both (f u) k b v h in
      let l1 = p.falls u s.0 s.1 s.2 in
      let l2 = (q s.0).falls s.1 b v s.3 in
      omega arith

  bind_alike : (u : Account) (b : B) (v : Account) → (bind (f u) k).end ≡ run.Done b v → (w : Account) → u.left ≤ w.left + v.left → u.left ≤ j + v.left →
      EndsAlike (λ u. bind (f' u) k') u b v w
  bind_alike u b v h w l r =
      let s = bind_both (f u) k b v h in
      let a = s.0 in
      let m = s.1 in
      let l1 : m.left ≤ u.left = p.falls u a m s.2 in
      let l2 : v.left ≤ m.left = (q a).falls m b v s.3 in
      let t1 = p.alike u a m s.2 w (omega arith) (omega arith) in
      let x : Account = t1.0 in
      let e1 : w.left + m.left ≡ x.left + u.left = t1.2 in
      let t2 = (q a).alike m b v s.3 x (omega arith) (omega arith) in
      let y : Account = t2.0 in
      let e2 : x.left + v.left ≡ y.left + m.left = t2.2 in
      (y, bind_done (f' w) k' a x t1.1 t2.1, omega arith)

  pub exact_bind : IsExact j (λ u. bind (f u) k) (λ u. bind (f' u) k')
  exact_bind = record { falls = bind_falls; alike = bind_alike }

paid_positive : {A : Type 0} (n : ℕ) (go : Run A) (a : A) (v : Account) → (paid n go).end ≡ run.Done a v → 0 < n
paid_positive zero go a v h = absurd (unit_done h)
paid_positive (suc n) go a v h = omega arith

paid_goes : {A : Type 0} (n : ℕ) (go : Run A) → 0 < n → (paid n go).end ≡ go.end
paid_goes zero go l = absurd (omega arith)
paid_goes (suc n) go l = refl

pub ticking_positive : {A : Type 0} (u : Account) (f : Account → Run A) (a : A) (v : Account) → (ticking u f).end ≡ run.Done a v → 0 < u.left
unfolding ticking
ticking_positive u f a v h = paid_positive u.left (f (ticked u)) a v h

ticking_goes : {A : Type 0} (u : Account) (f : Account → Run A) → 0 < u.left → (ticking u f).end ≡ (f (ticked u)).end
unfolding ticking
ticking_goes u f l = paid_goes u.left (f (ticked u)) l

module _ {A : Type 0} {j : ℕ} (f f' : Account → Run A) (p : IsExact j f f') where
  ticking_falls : (u : Account) (a : A) (v : Account) → (ticking u f).end ≡ run.Done a v → v.left ≤ u.left
  ticking_falls u a v h = let l : v.left ≤ u.left - 1 = p.falls (ticked u) a v (ticking_done u f a v h) in omega arith

  ticking_alike : (u : Account) (a : A) (v : Account) → (ticking u f).end ≡ run.Done a v → (w : Account) → u.left ≤ w.left + v.left → u.left ≤ suc j + v.left →
      EndsAlike (λ u. ticking u f') u a v w
  ticking_alike u a v h w l r =
      let e = ticking_done u f a v h in
      let z : 0 < u.left = ticking_positive u f a v h in
      let d : v.left ≤ u.left - 1 = p.falls (ticked u) a v e in
      let t = p.alike (ticked u) a v e (ticked w) (omega arith) (omega arith) in
      let x : Account = t.0 in
      let e2 : w.left - 1 + v.left ≡ x.left + (u.left - 1) = t.2 in
      (x, ticking_goes w f' (omega arith) ∙ t.1, omega arith)

  -- with a step less
  pub exact_ticking_less : IsExact (suc j) (λ u. ticking u f) (λ u. ticking u f')
  exact_ticking_less = record { falls = ticking_falls; alike = ticking_alike }

  pub exact_ticking : IsExact j (λ u. ticking u f) (λ u. ticking u f')
  exact_ticking = record { falls = ticking_falls; alike = λ u a v h w l r. ticking_alike u a v h w l (omega arith) }

-- lists of acts
pub data AreExact (j : ℕ) : List Act → List Act → Type 0 where
  no_act : AreExact j [] []
  an_act : {f f' : Act} {fs fs' : List Act} → IsExact j f f' → AreExact j fs fs' → AreExact j (f ∷ fs) (f' ∷ fs')

pub exact_all : {j : ℕ} {fs fs' : List Act} → AreExact j fs fs' → IsExact j (λ u. run_all fs u) (λ u. run_all fs' u)
unfolding run_all
exact_all no_act = exact_done tt
exact_all (an_act p ps) = exact_bind _ _ _ _ p (λ a. exact_all ps)
