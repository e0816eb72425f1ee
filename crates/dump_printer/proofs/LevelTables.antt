-- Universes in normal form use levels in the same first-use order.
use Rattle.std.proofs.Common.{◌≡◌, ℕ, zero, suc, ◌<◌, ◌≤◌, List, [], ◌∷◌, ◌++◌, length, take, Option, Some, None, Bool, true, false, cond, ◌||◌, refl, sym, ap, subst, ◌∙◌, arith, inl, inr, append-nil, append_assoc}
use Rattle.std.proofs.lemmas.List.{length-take-le}
use Rattle.std.specs.Prelude.{bytes_eq, nat_lt, nat_eq}
use Rattle.std.specs.List.{All}
use Rattle.std.proofs.lemmas.Bool.{cases_order, cases_Bool, lt-ltb, ltb-true, eq-eqb, ne_eqb, eqb-true, eqb-false}
use Rattle.std.proofs.Common.{length-append}
use Rattle.std.specs.Cmp.Lexicographic.{nat_list_eq_equiv, same_text}
use Rattle.std.proofs.lemmas.List.Elements.{All-head, All-tail}
use Rattle.universe_levels.specs.declared.level.LevelExpr.{LevelExpr}
use Rattle.universe_levels.specs.Maximum.{with_part, with_parts, maximum_of, IsRising}
use Rattle.universe_levels.proofs.MaximumLemmas.{with_part-before, with_part-at, with_part-after, rising-with_parts, rising-nil, rising-head, rising-tail}
use Rattle.dump_grammar.specs.Numbering.{is_in, place_of, firsts}
use Rattle.dump_reader.specs.Tables.{with_text, after_uses}
use Rattle.dump_reader.proofs.Growth.{all-firsts}

-- ---- numbers in the order of first use: each is below the count so far, or the count itself, which rises then

abbrev pub go : Option ℕ → (ℕ → Option ℕ) → Option ℕ
go None f = None
go (Some d) f = f d

abbrev after_one : ℕ → ℕ → Option ℕ
after_one c k = cond (nat_lt k c) (Some c) (cond (nat_eq k c) (Some (suc c)) None)

unfoldable pub counts : ℕ → List ℕ → Option ℕ
counts c [] = Some c
counts c (k ∷ ks) = go (after_one c k) (λ d. counts d ks)

abbrev pub has : ℕ → List ℕ → Bool
has j [] = false
has j (k ∷ ks) = nat_eq j k || has j ks

one-known : (c k : ℕ) → k < c → after_one c k ≡ Some c
one-known c k h = rw (lt-ltb k c h) refl

one-new : (c k : ℕ) → k ≡ c → after_one c k ≡ Some (suc c)
one-new c k h =
    let a : nat_lt k c ≡ false = elim (cases_Bool (nat_lt k c)) [ inl f ↦ absurd (let g : k < c = ltb-true k c f in omega arith) | inr f ↦ f ] in
    rw (a, eq-eqb k c h) refl

one-far : (c k : ℕ) → c < k → after_one c k ≡ None
one-far c k h =
    let a : nat_lt k c ≡ false = elim (cases_Bool (nat_lt k c)) [ inl f ↦ absurd (let g : k < c = ltb-true k c f in omega arith) | inr f ↦ f ] in
    rw (a, ne_eqb k c (λ e. omega arith)) refl

counts-known : (c k : ℕ) (ks : List ℕ) → k < c → counts c (k ∷ ks) ≡ counts c ks
unfolding counts
counts-known c k ks h = ap (λ o. go o (λ d. counts d ks)) (one-known c k h)

counts-new : (c k : ℕ) (ks : List ℕ) → k ≡ c → counts c (k ∷ ks) ≡ counts (suc c) ks
unfolding counts
counts-new c k ks h = ap (λ o. go o (λ d. counts d ks)) (one-new c k h)

counts-far : (c k : ℕ) (ks : List ℕ) → c < k → counts c (k ∷ ks) ≡ None
unfolding counts
counts-far c k ks h = ap (λ o. go o (λ d. counts d ks)) (one-far c k h)

counts-none : (c : ℕ) → counts c [] ≡ Some c
unfolding counts
counts-none c = refl

pub go-split : (o : Option ℕ) (f : ℕ → Option ℕ) (m : ℕ) → go o f ≡ Some m → (d : ℕ) × (o ≡ Some d) × (f d ≡ Some m)
go-split None f m e = absurd cc
go-split (Some d) f m e = (d, refl, e)

pub counts-append : (c : ℕ) (ks js : List ℕ) → counts c (ks ++ js) ≡ go (counts c ks) (λ d. counts d js)
counts-append c [] js = ap (λ o. go o (λ d. counts d js)) (sym (counts-none c))
counts-append c (k ∷ ks) js =
    elim (cases_order k c) [
      | inl l ↦ counts-new c k (ks ++ js) l ∙ counts-append (suc c) ks js ∙ ap (λ o. go o (λ d. counts d js)) (sym (counts-new c k ks l))
      | inr q ↦ elim q [
        | inl l ↦ counts-known c k (ks ++ js) l ∙ counts-append c ks js ∙ ap (λ o. go o (λ d. counts d js)) (sym (counts-known c k ks l))
        | inr l ↦ counts-far c k (ks ++ js) l ∙ ap (λ o. go o (λ d. counts d js)) (sym (counts-far c k ks l))
      ]
    ]

-- ---- what is counted is there, in whatever order

pub record Counted (c m : ℕ) (ks : List ℕ) : Type 0 where
  pub rises : c ≤ m
  pub below : (j : ℕ) → has j ks ≡ true → j < m
  pub all : (j : ℕ) → c ≤ j → j < m → has j ks ≡ true

has-head : (j k : ℕ) (ks : List ℕ) → j ≡ k → has j (k ∷ ks) ≡ true
has-head j k ks e = rw (eq-eqb j k e) refl

has-tail : (j k : ℕ) (ks : List ℕ) → has j ks ≡ true → has j (k ∷ ks) ≡ true
has-tail j k ks e = rw e (elim (nat_eq j k) as (λ b. (b || true) ≡ true) [ true ↦ refl | false ↦ refl ])

has-other : (j k : ℕ) (ks : List ℕ) → (j ≡ k → ⊥) → has j (k ∷ ks) ≡ has j ks
has-other j k ks ne = rw (ne_eqb j k ne) refl

has-one : (P : ℕ → Type 0) (k : ℕ) (ks : List ℕ) → P k → ((j : ℕ) → has j ks ≡ true → P j) → (j : ℕ) → has j (k ∷ ks) ≡ true → P j
has-one P k ks one more j e =
    elim (cases_Bool (nat_eq j k)) [
      | inl f ↦ subst P (sym (eqb-true j k f)) one
      | inr f ↦ more j (sym (has-other j k ks (eqb-false j k f)) ∙ e)
    ]

counted : (c m : ℕ) (ks : List ℕ) → counts c ks ≡ Some m → Counted c m ks
counted c m [] e = (let same : c ≡ m = (let f = counts-none c in cc) in record { rises = omega arith; below = λ j f. absurd cc; all = λ j f g. absurd (omega arith) })
counted c m (k ∷ ks) e =
    elim (cases_order k c) [
      | inl l ↦ let h = counted (suc c) m ks (sym (counts-new c k ks l) ∙ e) in
          record {
            rises = omega (arith, h.rises);
            below = has-one (λ j. j < m) k ks (omega (arith, h.rises)) h.below;
            all = λ j f g. elim (cases_order j k) [
              | inl s ↦ has-head j k ks s
              | inr q ↦ elim q [ inl s ↦ absurd (omega arith) | inr s ↦ has-tail j k ks (h.all j (omega arith) g) ]
            ];
          }
      | inr q ↦ elim q [
        | inl l ↦ let h = counted c m ks (sym (counts-known c k ks l) ∙ e) in
            record {
              rises = h.rises;
              below = has-one (λ j. j < m) k ks (omega (arith, h.rises)) h.below;
              all = λ j f g. has-tail j k ks (h.all j f g);
            }
        | inr l ↦ absurd (let f = counts-far c k ks l in cc)
      ]
    ]

abbrev Rises : List ℕ → Type 0
Rises [] = Unit {0}
Rises (k ∷ ks) = ((j : ℕ) → has j ks ≡ true → k < j) × Rises ks

in-order : (c m : ℕ) (ks : List ℕ) → Rises ks → Counted c m ks → counts c ks ≡ Some m
in-order c m [] r h =
    elim (cases_order c m) [
      | inl l ↦ counts-none c ∙ ap Some l
      | inr q ↦ elim q [ inl l ↦ absurd (let f : false ≡ true = h.all c (omega arith) l in cc) | inr l ↦ absurd (omega (arith, h.rises)) ]
    ]
in-order c m (k ∷ ks) r h =
    let top : k < m = h.below k (has-head k k ks refl) in
    let rest : (j : ℕ) → has j ks ≡ true → j < m = λ j f. h.below j (has-tail j k ks f) in
    elim (cases_order k c) [
      | inl l ↦ counts-new c k ks l ∙ in-order (suc c) m ks r.1 (record { rises = omega arith; below = rest; all = λ j f g. sym (has-other j k ks (λ e. omega arith)) ∙ h.all j (omega arith) g })
      | inr q ↦ elim q [
        | inl l ↦ counts-known c k ks l ∙ in-order c m ks r.1 (record { rises = h.rises; below = rest; all = λ j f g. sym (has-other j k ks (λ e. omega arith)) ∙ h.all j f g })
        | inr l ↦ absurd (let f : k < c = r.0 c (sym (has-other c k ks (λ e. omega arith)) ∙ h.all c (omega arith) (omega arith)) in omega arith)
      ]
    ]

-- ---- the levels of a maximum

abbrev pub numbers_of : List LevelExpr → List ℕ
numbers_of [] = []
numbers_of (e ∷ es) = e.level.0 ∷ numbers_of es

or-again : (b x : Bool) → (b || x) ≡ (b || (b || x))
or-again true x = refl
or-again false x = refl

or-swap : (a b x : Bool) → (a || (b || x)) ≡ (b || (a || x))
or-swap true true x = refl
or-swap true false x = refl
or-swap false true x = refl
or-swap false false x = refl

module _ (j : ℕ) where
  has-with : (e : LevelExpr) (ps : List LevelExpr) → has j (numbers_of (with_part e ps)) ≡ has j (e.level.0 ∷ numbers_of ps)
  has-with e [] = refl
  has-with e (p ∷ ps) =
      elim (cases_order e.level.0 p.level.0) [
        | inl l ↦ rw (with_part-at e p ps l, l) (or-again (nat_eq j p.level.0) (has j (numbers_of ps)))
        | inr q ↦ elim q [
          | inl l ↦ rw (with_part-before e p ps l) refl
          | inr l ↦ rw (with_part-after e p ps l) (ap (λ b. nat_eq j p.level.0 || b) (has-with e ps) ∙ or-swap (nat_eq j p.level.0) (nat_eq j e.level.0) (has j (numbers_of ps)))
        ]
      ]

  has-parts : (ps es : List LevelExpr) → has j (numbers_of (with_parts ps es)) ≡ (has j (numbers_of es) || has j (numbers_of ps))
  has-parts ps [] = refl
  has-parts ps (e ∷ es) =
      has-parts (with_part e ps) es ∙ ap (λ b. has j (numbers_of es) || b) (has-with e ps)
      ∙ or-swap (has j (numbers_of es)) (nat_eq j e.level.0) (has j (numbers_of ps)) ∙ or-assoc (nat_eq j e.level.0) (has j (numbers_of es)) (has j (numbers_of ps))
    where
      or-assoc : (a b x : Bool) → (a || (b || x)) ≡ ((a || b) || x)
      or-assoc true b x = refl
      or-assoc false b x = refl

  has-maximum : (es : List LevelExpr) → has j (numbers_of (maximum_of es)) ≡ has j (numbers_of es)
  has-maximum es = has-parts [] es ∙ elim (has j (numbers_of es)) as (λ b. (b || false) ≡ b) [ true ↦ refl | false ↦ refl ]

above-has : (m : ℕ) (es : List LevelExpr) → All (λ q. m < q.level.0) es → (j : ℕ) → has j (numbers_of es) ≡ true → m < j
above-has m [] h j e = absurd cc
above-has m (x ∷ es) h j e =
    has-one (λ i. m < i) x.level.0 (numbers_of es) (All-head (λ q. m < q.level.0) x es h) (above-has m es (All-tail (λ q. m < q.level.0) x es h)) j e

rises-numbers : (es : List LevelExpr) → IsRising es → Rises (numbers_of es)
rises-numbers [] h = tt
rises-numbers (e ∷ es) h = (above-has e.level.0 es (rising-head e es h), rises-numbers es (rising-tail e es h))

-- A maximum's levels are counted as those that it was made of.
pub counts-maximum : (c m : ℕ) (es : List LevelExpr) → counts c (numbers_of es) ≡ Some m → counts c (numbers_of (maximum_of es)) ≡ Some m
counts-maximum c m es e =
    let h = counted c m (numbers_of es) e in
    in-order c m (numbers_of (maximum_of es)) (rises-numbers (maximum_of es) (rising-with_parts [] es rising-nil)) (record {
      rises = h.rises;
      below = λ j f. h.below j (sym (has-maximum j es) ∙ f);
      all = λ j f g. has-maximum j es ∙ h.all j f g;
    })

-- ---- tables of texts and their numbers

module _ (table : List (List ℕ)) where
  abbrev pub places : List (List ℕ) → List ℕ
  places [] = []
  places (a ∷ us) = place_of a table ∷ places us

in-take : (a : List ℕ) (c : ℕ) (xs : List (List ℕ)) → place_of a xs < c → place_of a xs < length xs → is_in a (take c xs) ≡ true
unfolding place_of is_in
in-take a zero xs h k = absurd (omega arith)
in-take a (suc c) [] h k = absurd (omega arith)
in-take a (suc c) (x ∷ xs) h k =
    let P : Bool → Type 0 = λ b. cond b 0 (suc (place_of a xs)) < suc c → cond b 0 (suc (place_of a xs)) < suc (length xs) → (b || is_in a (take c xs)) ≡ true in
    let on : (b : Bool) → P b = λ b. elim b as P [ true ↦ λ h k. refl | false ↦ λ h k. in-take a c xs (omega arith) (omega arith) ] in
    on (bytes_eq a x) h k

take-in : (a : List ℕ) (c : ℕ) (xs : List (List ℕ)) → is_in a (take c xs) ≡ true → place_of a xs < c
unfolding place_of is_in
take-in a zero xs e = absurd cc
take-in a (suc c) [] e = absurd cc
take-in a (suc c) (x ∷ xs) e =
    let P : Bool → Type 0 = λ b. (b || is_in a (take c xs)) ≡ true → cond b 0 (suc (place_of a xs)) < suc c in
    let on : (b : Bool) → P b = λ b. elim b as P [ true ↦ λ e. omega arith | false ↦ λ e. omega (arith, take-in a c xs e) ] in
    on (bytes_eq a x) e

take-next : (a : List ℕ) (xs : List (List ℕ)) → place_of a xs < length xs → take (place_of a xs) xs ++ a ∷ [] ≡ take (suc (place_of a xs)) xs
unfolding place_of
take-next a [] h = absurd (omega arith)
take-next a (x ∷ xs) h =
    let P : Bool → Type 0 = λ b. bytes_eq a x ≡ b → cond b 0 (suc (place_of a xs)) < suc (length xs) → take (cond b 0 (suc (place_of a xs))) (x ∷ xs) ++ a ∷ [] ≡ take (suc (cond b 0 (suc (place_of a xs)))) (x ∷ xs) in
    let on : (b : Bool) → P b = λ b. elim b as P [
      | true ↦ λ e k. ap (λ y. y ∷ []) (same_text a x (sym e))
      | false ↦ λ e k. ap (λ (ys : List (List ℕ)). x ∷ ys) (take-next a xs (omega arith))
    ] in
    on (bytes_eq a x) refl h

place-absent : (a : List ℕ) (t more : List (List ℕ)) → is_in a t ≡ false → place_of a ((t ++ a ∷ []) ++ more) ≡ length t
unfolding place_of is_in
place-absent a [] more e = ap (λ b. cond b 0 (suc (place_of a more))) (nat_list_eq_equiv.refl a)
place-absent a (x ∷ t) more e =
    let P : Bool → Type 0 = λ b. (b || is_in a t) ≡ false → cond b 0 (suc (place_of a ((t ++ a ∷ []) ++ more))) ≡ suc (length t) in
    let on : (b : Bool) → P b = λ b. elim b as P [ true ↦ λ f. absurd cc | false ↦ λ f. ap (λ n. suc n) (place-absent a t more f) ] in
    on (bytes_eq a x) e

with-known : (a : List ℕ) (t : List (List ℕ)) → is_in a t ≡ true → with_text a t ≡ t
with-known a t e = ap (λ b. cond b t (t ++ a ∷ [])) e

with-new : (a : List ℕ) (t : List (List ℕ)) → is_in a t ≡ false → with_text a t ≡ t ++ a ∷ []
with-new a t e = ap (λ b. cond b t (t ++ a ∷ [])) e

-- what is added after some uses
extended : (t us : List (List ℕ)) → (more : List (List ℕ)) × (after_uses t us ≡ t ++ more)
unfolding after_uses
extended t [] = ([], sym (append-nil t))
extended t (a ∷ us) =
    let h = extended (with_text a t) us in
    elim (cases_Bool (is_in a t)) [
      | inl e ↦ (h.0, h.1 ∙ ap (λ (u : List (List ℕ)). u ++ h.0) (with-known a t e))
      | inr e ↦ (a ∷ h.0, h.1 ∙ ap (λ (u : List (List ℕ)). u ++ h.0) (with-new a t e) ∙ append_assoc t (a ∷ []) h.0)
    ]

after-none : (t : List (List ℕ)) → after_uses t [] ≡ t
unfolding after_uses
after-none t = refl

after-one : (t : List (List ℕ)) (a : List ℕ) (us : List (List ℕ)) → after_uses t (a ∷ us) ≡ after_uses (with_text a t) us
unfolding after_uses
after-one t a us = refl

module _ (L : List (List ℕ)) where
  place-from : (t : List (List ℕ)) (a : List ℕ) (us : List (List ℕ)) → is_in a t ≡ false → after_uses (t ++ a ∷ []) us ≡ L → place_of a L ≡ length t
  place-from t a us e h =
      let x = extended (t ++ a ∷ []) us in
      subst (λ (ys : List (List ℕ)). place_of a ys ≡ length t) (sym x.1 ∙ h) (place-absent a t x.0 e)

  length-from : (t : List (List ℕ)) (us : List (List ℕ)) → after_uses t us ≡ L → length t ≤ length L
  length-from t us h = let x = extended t us in omega (arith, ap (λ (ys : List (List ℕ)). length ys) (sym x.1 ∙ h), length-append t x.0)

  -- the uses of a table are counted up to its length
  counts-uses : (c : ℕ) (us : List (List ℕ)) → c ≤ length L → after_uses (take c L) us ≡ L → counts c (places L us) ≡ Some (length L)
  counts-uses c [] h e =
      let size : length (take c L) ≡ c = length-take-le c L h in
      counts-none c ∙ ap Some (sym size ∙ ap (λ (ys : List (List ℕ)). length ys) (sym (after-none (take c L)) ∙ e))
  counts-uses c (a ∷ us) h e =
      let size : length (take c L) ≡ c = length-take-le c L h in
      elim (cases_Bool (is_in a (take c L))) [
        | inl f ↦
            counts-known c (place_of a L) (places L us) (take-in a c L f)
            ∙ counts-uses c us h (ap (λ t. after_uses t us) (sym (with-known a (take c L) f)) ∙ sym (after-one (take c L) a us) ∙ e)
        | inr f ↦
            let k : after_uses (take c L ++ a ∷ []) us ≡ L = ap (λ t. after_uses t us) (sym (with-new a (take c L) f)) ∙ sym (after-one (take c L) a us) ∙ e in
            let at : place_of a L ≡ c = place-from (take c L) a us f k ∙ size in
            let room : suc c ≤ length L = omega (arith, length-from (take c L ++ a ∷ []) us k, length-append (take c L) (a ∷ []), size) in
            let next : take c L ++ a ∷ [] ≡ take (suc c) L = subst (λ n. take n L ++ a ∷ [] ≡ take (suc n) L) at (take-next a L (omega arith)) in
            counts-new c (place_of a L) (places L us) at ∙ counts-uses (suc c) us room (ap (λ t. after_uses t us) (sym next) ∙ k)
      ]

  -- uses that are counted up to the length make the table
  uses-counted : (c m : ℕ) (us : List (List ℕ)) → m ≤ length L → counts c (places L us) ≡ Some m → after_uses (take c L) us ≡ take m L
  uses-counted c m [] h e = after-none (take c L) ∙ ap (λ n. take n L) (let f = counts-none c in let g : c ≡ m = cc in g)
  uses-counted c m (a ∷ us) h e =
      let rise = (counted c m (places L (a ∷ us)) e).rises in
      elim (cases_order (place_of a L) c) [
        | inl l ↦
            let k = sym (counts-new c (place_of a L) (places L us) l) ∙ e in
            let more = (counted (suc c) m (places L us) k).rises in
            let absent : is_in a (take c L) ≡ false = elim (cases_Bool (is_in a (take c L))) [ inl f ↦ absurd (let g = take-in a c L f in omega arith) | inr f ↦ f ] in
            let next : take c L ++ a ∷ [] ≡ take (suc c) L = subst (λ n. take n L ++ a ∷ [] ≡ take (suc n) L) l (take-next a L (omega arith)) in
            after-one (take c L) a us ∙ ap (λ t. after_uses t us) (with-new a (take c L) absent ∙ next) ∙ uses-counted (suc c) m us h k
        | inr q ↦ elim q [
          | inl l ↦
              after-one (take c L) a us ∙ ap (λ t. after_uses t us) (with-known a (take c L) (in-take a c L l (omega arith)))
              ∙ uses-counted c m us h (sym (counts-known c (place_of a L) (places L us) l) ∙ e)
          | inr l ↦ absurd (let f = counts-far c (place_of a L) (places L us) l in cc)
        ]
      ]

take-whole : (xs : List (List ℕ)) → take (length xs) xs ≡ xs
take-whole [] = refl
take-whole (x ∷ xs) = ap (λ (ys : List (List ℕ)). x ∷ ys) (take-whole xs)

-- A table's uses are counted up to its length, and what is counted so has that table.
pub table-counts : (us : List (List ℕ)) → counts 0 (places (firsts us) us) ≡ Some (length (firsts us))
table-counts us = counts-uses (firsts us) 0 us (omega arith) (all-firsts us)

pub counts-table : (L us : List (List ℕ)) → counts 0 (places L us) ≡ Some (length L) → firsts us ≡ L
counts-table L us e = sym (all-firsts us) ∙ uses-counted L 0 (length L) us (omega arith) e ∙ take-whole L
