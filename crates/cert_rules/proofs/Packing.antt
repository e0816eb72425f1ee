-- Items as bytes, place by place.
use Rattle.std.proofs.Common.{◌≡◌, ◌≢◌, ◌∙◌, refl, sym, ap, subst, ℕ, zero, suc, ◌+◌, ◌<◌, List, [], ◌∷◌, ◌++◌, length, Option, Some, None, slice_get, true, false, ◌==◌, if◌then◌else◌, arith}
use Rattle.std.proofs.lemmas.Grind.{common_steps}
use Rattle.std.specs.Ordering.{nat_cmp}
use Rattle.std.specs.BTreeMap.{BTreeMap, get, is_at}
use Rattle.std.specs.Option.{option_map}
use Rattle.cert_rules.specs.declared.item.CertItem.{CertItem}
use Rattle.cert_rules.specs.declared.item.CertItem.TheVariants.{Number}
use Rattle.cert_rules.specs.Packed.{item_of, wide_item, item_at, items_from}

pub items_long : (m : BTreeMap ℕ CertItem) (i : ℕ) (cs : List ℕ) → length (items_from m i cs) ≡ length cs
items_long m i [] = refl
items_long m i (c ∷ cs) = ap suc (items_long m (suc i) cs)

-- the item at a place is that of its byte
pub items_get : (m : BTreeMap ℕ CertItem) (i n k : ℕ) (cs : List ℕ) → k ≡ n + i → slice_get (items_from m i cs) n ≡ option_map (item_at m k) (slice_get cs n)
items_get m i n k [] e = refl
items_get m i zero k (c ∷ cs) e = ap (λ j. Some (item_at m j c)) (omega (arith, e))
items_get m i (suc n) k (c ∷ cs) e = items_get m (suc i) n k cs (omega (arith, e))

-- a byte more is an item more
pub items_append : (m : BTreeMap ℕ CertItem) (i k : ℕ) (cs : List ℕ) (c : ℕ) → k ≡ length cs + i → items_from m i (cs ++ c ∷ []) ≡ items_from m i cs ++ item_at m k c ∷ []
items_append m i k [] c e = ap (λ j. item_at m j c ∷ []) (omega (arith, e))
items_append m i k (b ∷ cs) c e = ap (λ xs. item_at m i b ∷ xs) (items_append m (suc i) k cs c (omega (arith, e)))

-- a table is asked for the places of the list alone
item_same : (m n : BTreeMap ℕ CertItem) (i c : ℕ) → get nat_cmp n i ≡ get nat_cmp m i → item_at n i c ≡ item_at m i c
item_same m n i c e = ap (λ o. if c == 255 then wide_item o else item_of c) e

pub items_same : (m n : BTreeMap ℕ CertItem) (i k : ℕ) (cs : List ℕ) → k ≡ length cs + i → ((q : ℕ) → q < k → get nat_cmp n q ≡ get nat_cmp m q) → items_from n i cs ≡ items_from m i cs
items_same m n i k [] e h = refl
items_same m n i k (c ∷ cs) e h =
    let rest = items_same m n (suc i) k cs (omega (arith, e)) h in
    ap (λ x. x ∷ items_from n (suc i) cs) (item_same m n i c (h i (omega (arith, e)))) ∙ ap (λ xs. item_at m i c ∷ xs) rest

-- a byte of its own
pub own_item : (m : BTreeMap ℕ CertItem) (i c : ℕ) → (c == 255) ≡ false → item_at m i c ≡ item_of c
own_item m i c e = ap (λ b. if b then wide_item (get nat_cmp m i) else item_of c) e

-- a lower place is another one
pub at_greater : (k q : ℕ) → q < k → is_at (nat_cmp k) q ≡ false
at_greater k q h = grind (arith, common_steps)

-- a byte of its own is its item more
pub own_append : (m : BTreeMap ℕ CertItem) (bs : List ℕ) (c : ℕ) → (c == 255) ≡ false → items_from m 0 (bs ++ c ∷ []) ≡ items_from m 0 bs ++ item_of c ∷ []
own_append m bs c d = items_append m 0 (length bs) bs c (omega arith) ∙ ap (λ x. items_from m 0 bs ++ x ∷ []) (own_item m (length bs) c d)

-- the byte of a small number
pub number_item : (c : ℕ) → c < 128 → item_of c ≡ Number c
number_item c h = grind (arith, common_steps)
