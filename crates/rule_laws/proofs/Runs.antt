-- Runs that are done: how they are taken apart.
use Rattle.std.proofs.Common.{◌≡◌, ℕ, zero, suc, ◌⊎◌, inl, inr, Bool, true, false, if◌then◌else◌, List, ◌∷◌, refl, ap}
use Rattle.pc_rules.specs.declared.meter.Account.{Account}
use Rattle.pc_rules.specs.declared.broken.Broken.{Broken}
use Rattle.pc_terms.specs.Syntax.{Term}
use Rattle.pc_rules.specs.DirectedRun.{Run, End, Done, Refused, NoUnit, Nested, Act, refused, passing, make, ticked, paid, ticking, end_then, bind, run_all}

-- a run followed by another is done where both are
abbrev pub Both : {A B : Type 0} → End A → (A → Account → End B) → B → Account → Type 0
Both {A} e k b w = (a : A) × (u : Account) × (e ≡ Done a u) × (k a u ≡ Done b w)

end_both : {A B : Type 0} (e : End A) (k : A → Account → End B) (b : B) (w : Account) → end_then e k ≡ Done b w → Both e k b w
end_both (Done a u) k b w h = (a, u, refl, h)
end_both (Refused x u) k b w h = absurd (cc)
end_both NoUnit k b w h = absurd (cc)
end_both Nested k b w h = absurd (cc)

pub bind_both : {A B : Type 0} (d : Run A) (k : A → Account → Run B) (b : B) (w : Account) → (bind d k).end ≡ Done b w → Both d.end (λ a u. (k a u).end) b w
unfolding bind
bind_both d k b w h = end_both d.end (λ a u. (k a u).end) b w h

paid_done : {A : Type 0} (n : ℕ) (go : Run A) (a : A) (w : Account) → (paid n go).end ≡ Done a w → go.end ≡ Done a w
paid_done zero go a w h = absurd (cc)
paid_done (suc n) go a w h = h

pub ticking_done : {A : Type 0} (u : Account) (go : Account → Run A) (a : A) (w : Account) → (ticking u go).end ≡ Done a w → (go (ticked u)).end ≡ Done a w
unfolding ticking
ticking_done u go a w h = paid_done u.left (go (ticked u)) a w h

pub if_done : {A : Type 0} (c : Bool) (x y : Run A) (a : A) (w : Account) → (if c then x else y).end ≡ Done a w →
    ((c ≡ true) × (x.end ≡ Done a w)) ⊎ ((c ≡ false) × (y.end ≡ Done a w))
if_done true x y a w h = inl (refl, h)
if_done false x y a w h = inr (refl, h)

pub refused_done : {A : Type 0} {b : Broken} {u : Account} {a : A} {w : Account} → Refused b u ≡ Done a w → ⊥
refused_done e = cc

pub unit_done : {A : Type 0} {a : A} {w : Account} → NoUnit ≡ Done a w → ⊥
unit_done e = cc

pub nested_done : {A : Type 0} {a : A} {w : Account} → Nested ≡ Done a w → ⊥
nested_done e = cc

value_or : {A : Type 0} → End A → A → A
value_or (Done a u) o = a
value_or (Refused b u) o = o
value_or NoUnit o = o
value_or Nested o = o

pub done_value : {A : Type 0} {a b : A} {u v : Account} → Done a u ≡ Done b v → a ≡ b
unfolding value_or
done_value {a = a} e = ap (λ r. value_or r a) e

-- a test and, where it is true, a run
pub tested : {A : Type 0} (c : Bool) (x : Run A) (b : Broken) (u : Account) (a : A) (w : Account) → (if c then x else refused b u).end ≡ Done a w →
    (c ≡ true) × (x.end ≡ Done a w)
tested true x b u a w h = (refl, h)
tested false x b u a w h = absurd (refused_done h)

pub run_both : (act : Act) (acts : List Act) (u v : Account) → (run_all (act ∷ acts) u).end ≡ Done tt v →
    (w : Account) × ((act u).end ≡ Done tt w) × ((run_all acts w).end ≡ Done tt v)
unfolding run_all
run_both act acts u v h = let p = bind_both (act u) (λ _ w. run_all acts w) tt v h in (p.1, p.2, p.3)

-- a made term, and what follows
pub make_then : {B : Type 0} (t : Term) (u : Account) (k : Term → Account → Run B) {b : B} {w : Account} → (bind (make t u) k).end ≡ Done b w → (k t u).end ≡ Done b w
unfolding bind
make_then t u k h = h

pub pass_then : {B : Type 0} (beyond : Bool) (u : Account) (k : Unit {0} → Account → Run B) {b : B} {w : Account} → (bind (passing beyond u) k).end ≡ Done b w →
    (k tt u).end ≡ Done b w
unfolding bind
pass_then beyond u k h = h
