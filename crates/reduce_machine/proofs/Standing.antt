-- What variables stand for.
use Rattle.std.proofs.Common.{◌≡◌, ℕ, zero, suc, ◌+◌, ◌-◌, ◌≤◌, inl, inr, List, [], ◌∷◌, length, Some, refl, sym, ap, ◌∙◌, arith, slice_get, subst as along, Result, Ok, Err, IfOk, IfErr}
use Rattle.std.proofs.lemmas.Grind.{common_steps}
use Rattle.trees.specs.Tree.{Slot, End, Child, Group, Done, Next}
use Rattle.trees.specs.Measures.{above, above_places, above_trees, loose, IsBeyond}
use Rattle.trees.specs.Substitution.{deeper, walk, walk_places, walk_trees, lift_var, lift}
use Rattle.trees.proofs.Closed.{Keeps, walk-closed}
use Rattle.trees.proofs.Cutoffs.{walk-does, overs_below, overs_past, lift-shift}
use Rattle.trees.proofs.Exchange.{substitute_overs_same}
use Rattle.trees.proofs.Put.{substitute_same, substitute_whole}
use Rattle.trees.specs.Closed.{Closed}
use Rattle.pc_terms.specs.declared.term.MakeFault.{MakeFault}
use Rattle.pc_terms.specs.declared.term.MakeFault.TheVariants.{TooDeep}
use Rattle.trees.proofs.Bounds.{depth-lift}
use Rattle.pc_terms.specs.Syntax.{Label, slots, Term, Terms, Children, Rel, Node, first, overs, shift, put_all, substitute}
use Rattle.reduce_machine.specs.Limits.{IsBeyondUnder}
use Rattle.reduce_machine.specs.Reads.{stands, stands_under, read}
use Rattle.reduce_machine.proofs.Limited.{beyond_under}
use Rattle.reduce_machine.specs.declared.bindings.Lazy.{Lazy}

-- an item, and what is behind the items
pub stands_at : (xs : List Term) (i : ℕ) (x : Term) → slice_get xs i ≡ Some x → stands xs i ≡ x
stands_at [] i x e = cc
stands_at (y ∷ xs) zero x e = cc
stands_at (y ∷ xs) (suc i) x e = stands_at xs i x e

pub stands_past : (xs : List Term) (j : ℕ) → stands xs (length xs + j) ≡ Rel j
stands_past [] j = let e : 0 + j ≡ j = omega arith in ap Rel e
stands_past (x ∷ xs) j =
    let e : length (x ∷ xs) + j ≡ suc (length xs + j) = omega arith in
    ap (first x (stands xs)) e ∙ stands_past xs j

-- under k variables
pub under_item : (xs : List Term) (k i j : ℕ) (x : Term) → j + k ≡ i → slice_get xs j ≡ Some x → stands_under xs k i ≡ shift k 0 x
under_item xs k i j x p e =
    let q : i ≡ k + j = omega arith in
    ap (overs k (stands xs)) q ∙ overs_past k (stands xs) j ∙ ap (shift k 0) (stands_at xs j x e)

pub under_past : (xs : List Term) (k i j : ℕ) → i ≡ k + (length xs + j) → stands_under xs k i ≡ Rel (k + j)
under_past xs k i j p = ap (overs k (stands xs)) p ∙ overs_past k (stands xs) (length xs + j) ∙ ap (shift k 0) (stands_past xs j)

under_keeps : (xs : List Term) → Keeps (stands_under xs)
under_keeps xs k i h = overs_below k (stands xs) i h

pub stands-closed : (xs : List Term) (k : ℕ) (t : Term) → loose t ≤ k → walk (stands_under xs) k t ≡ t
stands-closed xs k t h = walk-closed (stands_under xs) (under_keeps xs) k t h

pub walk_stands : (xs : List Term) (k : ℕ) (t : Term) → walk (stands_under xs) k t ≡ substitute (overs k (stands xs)) t
walk_stands xs k t = walk-does (stands_under xs) (stands xs) (λ k i. refl) k t

pub stands-none : (xs : List Term) (k : ℕ) (t : Term) → xs ≡ [] → walk (stands_under xs) k t ≡ t
stands-none xs k t e = ap (λ ys. walk (stands_under ys) k t) e ∙ walk_stands [] k t ∙ substitute_overs_same k t

pub walk_read : (xs : List Term) (t : Term) → walk (stands_under xs) 0 t ≡ substitute (stands xs) t
walk_read xs t = walk_stands xs 0 t

pub ruleset standing_laws = (stands-closed, stands-none)

-- items bound one after the other
abbrev pub onto : List Term → List Term → List Term
onto [] ys = ys
onto (x ∷ xs) ys = onto xs (x ∷ ys)

pub stands-onto : (xs ys : List Term) → stands (onto xs ys) ≡ put_all xs (stands ys)
stands-onto [] ys = refl
stands-onto (x ∷ xs) ys = stands-onto xs (x ∷ ys)

-- a lift lowers no number
above_kept : (m k i : ℕ) → i + 1 ≤ above (lift_var {L = Label} {slots = slots} m k i)
above_kept m k i = grind (arith, common_steps)

mutual
  above_le_lift : (m k : ℕ) (t : Term) → above t ≤ above (lift m k t)
  above_le_lift m k (Rel i) = above_kept m k i
  above_le_lift m k (Node l ts) = above_places_le m k ts

  above_places_le : {ss : List Slot} (m k : ℕ) (ts : Children ss) → above_places ts ≤ above_places (walk_places (lift_var m) k ts)
  above_places_le m k End = omega arith
  above_places_le m k (Child {n} t ts) = omega (arith, above_le_lift m (deeper n k) t, above_places_le m k ts)
  above_places_le m k (Group us ts) = omega (arith, above_trees_le m k us, above_places_le m k ts)

  above_trees_le : (m k : ℕ) (ts : Terms) → above_trees ts ≤ above_trees (walk_trees (lift_var m) k ts)
  above_trees_le m k Done = omega arith
  above_trees_le m k (Next n t ts) = omega (arith, above_le_lift m (deeper n k) t, above_trees_le m k ts)

lift_beyond : (n m k : ℕ) (t : Term) → IsBeyondUnder n t → IsBeyondUnder n (lift m k t)
lift_beyond n m k t (inl h) = inl (omega (arith, depth-lift m k t))
lift_beyond n m k t (inr h) = inr (omega (arith, above_le_lift m k t))

pub shift_beyond : (n m k : ℕ) (t : Term) → IsBeyondUnder n t → IsBeyondUnder n (shift m k t)
shift_beyond n m k t h = along (λ (x : Term). IsBeyondUnder n x) (lift-shift m k t) (lift_beyond n m k t h)

-- a part as it is kept
pub part_closed : (l : Lazy) (xs : List Term) (t : Term) (n : ℕ) → l.term ≡ t → l.env.items ≡ [] → n ≡ 0 → Closed n t → read l ≡ substitute (stands xs) t
part_closed l xs t n p q z c =
    (λ j. substitute (stands (q j)) (p j)) ∙ substitute_same t ∙ sym (substitute_whole t (stands xs) (along (λ m. Closed m t) z c))

pub part_item : (xs : List Term) (i : ℕ) (t : Term) (item : Lazy) (r : Result Lazy MakeFault) → Rel i ≡ t → slice_get xs i ≡ Some (read item) → IfOk r (λ l. l ≡ item) →
    IfOk r (λ l. read l ≡ substitute (stands xs) t)
part_item xs i t item (Ok l) e f h = ap read h ∙ sym (stands_at xs i (read item) f) ∙ ap (substitute (stands xs)) e
part_item xs i t item (Err x) e f h = h

-- a variable as it is read
item_is : (xs : List Term) (k i j : ℕ) (l : Lazy) (t : Term) → j ≡ i - k → k ≤ i → slice_get xs j ≡ Some (read l) → t ≡ walk (stands_under l.env.items) 0 l.term →
    stands_under xs k i ≡ shift k 0 t
item_is xs k i j l t p h f e =
    let q : j + k ≡ i = omega arith in
    under_item xs k i j (read l) q f ∙ ap (shift k 0) (sym (e ∙ walk_read l.env.items l.term))

pub item_ok : (xs : List Term) (k i j : ℕ) (l : Lazy) (t : Term) (r : Result Term MakeFault) → j ≡ i - k → k ≤ i → slice_get xs j ≡ Some (read l) →
    t ≡ walk (stands_under l.env.items) 0 l.term → IfOk r (λ u. u ≡ shift k 0 t) → IfOk r (λ u. u ≡ stands_under xs k i)
item_ok xs k i j l t r p h f e o = along (λ x. IfOk r (λ u. u ≡ x)) (sym (item_is xs k i j l t p h f e)) o

pub item_deep : (n : ℕ) (xs : List Term) (k i j : ℕ) (l : Lazy) (t : Term) (r : Result Term MakeFault) → j ≡ i - k → k ≤ i → slice_get xs j ≡ Some (read l) →
    t ≡ walk (stands_under l.env.items) 0 l.term → IfErr r (λ e. e ≡ TooDeep → IsBeyond (lift k 0 t)) → IfErr r (λ e. e ≡ TooDeep → IsBeyondUnder n (stands_under xs k i))
item_deep n xs k i j l t (Ok u) p h f e o = o
item_deep n xs k i j l t (Err x) p h f e o =
    λ d. beyond_under n (stands_under xs k i) (along (λ (y : Term). IsBeyond y) (lift-shift k 0 t ∙ sym (item_is xs k i j l t p h f e)) (o d))

pub item_beyond : (n : ℕ) (xs : List Term) (k i j : ℕ) (l : Lazy) → j ≡ i - k → k ≤ i → slice_get xs j ≡ Some (read l) →
    IsBeyondUnder n (walk (stands_under l.env.items) 0 l.term) → IsBeyondUnder n (stands_under xs k i)
item_beyond n xs k i j l p h f b =
    along (λ (y : Term). IsBeyondUnder n y) (sym (item_is xs k i j l (walk (stands_under l.env.items) 0 l.term) p h f refl)) (shift_beyond n k 0 _ b)

pub past_ok : (xs : List Term) (k i n j : ℕ) (r : Result Term MakeFault) → n ≡ i - k → k ≤ i → n ≡ length xs + j → IfOk r (λ t. t ≡ Rel (k + j)) →
    IfOk r (λ t. t ≡ stands_under xs k i)
past_ok xs k i n j r p h e o =
    let q : i ≡ k + (length xs + j) = omega arith in
    along (λ x. IfOk r (λ t. t ≡ x)) (sym (under_past xs k i j q)) o
