-- What terms at places are, and what their variables are.
use Rattle.std.proofs.Common.{◌≡◌, ℕ, zero, suc, ◌+◌, ◌<◌, ◌≤◌, ◌-◌, List, [], ◌∷◌, length, Some, refl, sym, ap, ◌∙◌, arith, slice_get, ◌↔◌}
use mathlib.Core.Path.{fun_ext}
use Rattle.trees.specs.Measures.{loose}
use Rattle.trees.specs.Substitution.{walk}
use Rattle.trees.proofs.Closed.{Keeps, walk-closed}
use Rattle.trees.proofs.Cutoffs.{walk-does, overs_below, overs_past}
use Rattle.trees.proofs.Exchange.{shift_is, shift-shift, put_all-shifted, more}
use Rattle.trees.proofs.Fusion.{rename-substitute, rename_same}
use Rattle.pc_terms.specs.Syntax.{Term, Rel, overs, rename, shift, put_all, substitute}
use Rattle.reduce_machine.specs.Reads.{stands, stands_under, read}
use Rattle.reduce_machine.specs.declared.bindings.Lazy.{Lazy}
use Rattle.reduce_machine.proofs.Standing.{stands_at, stands_past}
use Rattle.lazy_conversion.specs.Lifted.{lifted_under}

-- a variable of the term's own
pub own_variable : (d : ℕ) (xs : List Term) (k i : ℕ) → i < k → lifted_under d xs k i ≡ Rel i
unfolding lifted_under
own_variable d xs k i h = overs_below k (λ j. shift d 0 (stands xs j)) i h

pub lifted_keeps : (d : ℕ) (xs : List Term) → Keeps (lifted_under d xs)
lifted_keeps d xs k i h = own_variable d xs k i h

-- a variable that is bound
past_own : (d : ℕ) (xs : List Term) (k i j : ℕ) → j + k ≡ i → lifted_under d xs k i ≡ shift (d + k) 0 (stands xs j)
unfolding lifted_under
past_own d xs k i j p =
    let q : i ≡ k + j = omega arith in
    let r : k + d ≡ d + k = omega arith in
    ap (overs k (λ j. shift d 0 (stands xs j))) q ∙ overs_past k (λ j. shift d 0 (stands xs j)) j
    ∙ shift-shift k d 0 0 (stands xs j) (omega arith) (omega arith) ∙ ap (λ n. shift n 0 (stands xs j)) r

-- a lazy term that stands below d variables more
pub lifted_read : (d : ℕ) (l : Lazy) → walk (lifted_under d l.env.items) 0 l.term ≡ shift d 0 (read l)
unfolding lifted_under
lifted_read d l =
    walk-does (lifted_under d l.env.items) (λ j. shift d 0 (stands l.env.items j)) (λ k i. refl) 0 l.term
    ∙ sym (rename-substitute l.term (stands l.env.items) (λ i. d + i))

pub item_meaning : (d : ℕ) (xs : List Term) (k i j : ℕ) (l : Lazy) → j ≡ i - k → k ≤ i → slice_get xs j ≡ Some (read l) →
    lifted_under d xs k i ≡ walk (lifted_under (d + k) l.env.items) 0 l.term
item_meaning d xs k i j l p h e =
    let q : j + k ≡ i = omega arith in
    past_own d xs k i j q ∙ ap (shift (d + k) 0) (stands_at xs j (read l) e) ∙ sym (lifted_read (d + k) l)

-- a variable behind all items
pub past_meaning : (d : ℕ) (xs : List Term) (k i n j : ℕ) → n ≡ i - k → k ≤ i → n ≡ length xs + j → lifted_under d xs k i ≡ Rel (d + k + j)
past_meaning d xs k i n j p h e =
    let q : n + k ≡ i = omega arith in
    past_own d xs k i n q ∙ ap (λ m. shift (d + k) 0 (stands xs m)) e ∙ ap (shift (d + k) 0) (stands_past xs j)

-- a term that is closed below its own variables
pub lifted_closed : (d : ℕ) (xs : List Term) (k : ℕ) (t : Term) → loose t ≤ k → walk (lifted_under d xs) k t ≡ t
lifted_closed d xs k t h = walk-closed (lifted_under d xs) (lifted_keeps d xs) k t h

-- a part that stands below n variables more, at u
pub part_closed : (d : ℕ) (xs : List Term) (k n : ℕ) (t : Term) → loose t ≤ k → walk (lifted_under d xs) k t ≡ walk (lifted_under d xs) (k + n) t
part_closed d xs k n t h = lifted_closed d xs k t h ∙ sym (lifted_closed d xs (k + n) t (omega arith))

-- under no bindings
none_bound : (d k : ℕ) (t : Term) → walk (lifted_under d []) k t ≡ shift d k t
unfolding lifted_under
none_bound d k t = walk-does (lifted_under d []) (more d) (λ k i. refl) k t ∙ sym (shift_is d k t)

pub lifted_none : (d : ℕ) (xs : List Term) (k : ℕ) (t : Term) → xs ≡ [] → walk (lifted_under d xs) k t ≡ shift d k t
lifted_none d xs k t e = ap (λ (ys : List Term). walk (lifted_under d ys) k t) e ∙ none_bound d k t

-- with nothing more
shift_zero : (x : Term) → shift 0 0 x ≡ x
shift_zero x = ap (λ (r : ℕ → ℕ). rename r x) (fun_ext zero_left) ∙ rename_same x
  where
    zero_left : (i : ℕ) → 0 + i ≡ i
    zero_left i = omega arith

pub lifted_zero : (xs : List Term) → lifted_under 0 xs ≡ stands_under xs
unfolding lifted_under
lifted_zero xs = fun_ext (λ n. fun_ext (λ i. ap (λ (s : ℕ → Term). overs n s i) (fun_ext (λ j. shift_zero (stands xs j)))))

pub lifted_nothing : (xs : List Term) (k : ℕ) (t : Term) → walk (lifted_under 0 xs) k t ≡ walk (stands_under xs) k t
lifted_nothing xs k t = ap (λ f. walk f k t) (lifted_zero xs)

-- no two terms are the same once they are lifted
abbrev copies : ℕ → List Term
copies zero = []
copies (suc n) = Rel 0 ∷ copies n

copies_long : (n : ℕ) → length (copies n) ≡ n
copies_long zero = refl
copies_long (suc n) = omega (arith, copies_long n)

lowered : (d k : ℕ) (x : Term) → substitute (overs k (put_all (copies d) Rel)) (shift d k x) ≡ x
lowered d k x =
    sym (ap (λ (m : ℕ). substitute (overs k (put_all (copies d) Rel)) (shift m k x)) (copies_long d)) ∙ put_all-shifted k (copies d) x

pub shift-inj : (d k : ℕ) (t u : Term) → shift d k t ≡ shift d k u → t ≡ u
shift-inj d k t u e = sym (lowered d k t) ∙ ap (substitute (overs k (put_all (copies d) Rel))) e ∙ lowered d k u

-- two items that stand below as many variables more
pub items_one : (d : ℕ) (l r : Lazy) → walk (lifted_under d l.env.items) 0 l.term ≡ walk (lifted_under d r.env.items) 0 r.term → read l ≡ read r
items_one d l r e = shift-inj d 0 (read l) (read r) (sym (lifted_read d l) ∙ e ∙ lifted_read d r)

pub items_lifted : (d : ℕ) (l r : Lazy) → read l ≡ read r → walk (lifted_under d l.env.items) 0 l.term ≡ walk (lifted_under d r.env.items) 0 r.term
items_lifted d l r e = lifted_read d l ∙ ap (shift d 0) e ∙ sym (lifted_read d r)

-- plain terms are the same at their places exactly where they are one tree
pub closed_same : (d : ℕ) (xs : List Term) (k : ℕ) (d' : ℕ) (ys : List Term) (l : ℕ) (a b : Term) → loose a ≤ k → loose b ≤ l →
    ((walk (lifted_under d xs) k a ≡ walk (lifted_under d' ys) l b) ↔ (a ≡ b))
closed_same d xs k d' ys l a b h g =
    (λ e. sym (lifted_closed d xs k a h) ∙ e ∙ lifted_closed d' ys l b g, λ e. lifted_closed d xs k a h ∙ e ∙ sym (lifted_closed d' ys l b g))

pub none_same : (d : ℕ) (xs : List Term) (k : ℕ) (d' : ℕ) (ys : List Term) (l : ℕ) (a b : Term) → xs ≡ [] → ys ≡ [] → d ≡ d' → k ≡ l →
    ((walk (lifted_under d xs) k a ≡ walk (lifted_under d' ys) l b) ↔ (a ≡ b))
none_same d xs k d' ys l a b p q r s =
    let left : walk (lifted_under d xs) k a ≡ shift d k a = lifted_none d xs k a p in
    let right : walk (lifted_under d' ys) l b ≡ shift d k b = lifted_none d' ys l b q ∙ (λ i. shift (sym r i) (sym s i) b) in
    (λ e. shift-inj d k a b (sym left ∙ e ∙ right), λ e. left ∙ ap (shift d k) e ∙ sym right)

pub ruleset meaning_laws = (own_variable, item_meaning, past_meaning)
