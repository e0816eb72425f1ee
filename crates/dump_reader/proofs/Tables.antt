-- The table of texts as a set of strings in the order of insertion.
use Rattle.std.proofs.Common.{◌≡◌, ℕ, zero, suc, ◌+◌, ◌<◌, ◌≤◌, List, [], ◌∷◌, ◌++◌, map, length, Bool, true, false, cond, not, ◌||◌, if◌then◌else◌, Option, Some, None, slice_get, position, is_some, refl, sym, ap, subst, ◌∙◌, arith, true≢false}
use Rattle.std.specs.Prelude.{bytes_eq}
use Rattle.std.specs.List.{list_any, position_or_len, IsDistinct, AllByRecursion}
use Rattle.std.specs.Option.{option_map}
use Rattle.std.specs.Prelude.{String, string_bytes}
use Rattle.std.specs.String.{string_eq}
use Rattle.std.specs.Cmp.Lexicographic.{nat_list_eq_equiv}
use Rattle.std.proofs.lemmas.Option.{cond_some, slice_get_past}
use Rattle.std.proofs.lemmas.List.{map-append, length-map}
use Rattle.std.proofs.lemmas.Slice.Eq.{bytes_eq-Decides}
use Rattle.std.proofs.lemmas.Map.Keys.{IsDistinct-head, IsDistinct-tail}
use Rattle.indexmap.specs.IndexSet.{insert_key}
use Rattle.dump_grammar.specs.Numbering.{is_in, place_of}
use Rattle.dump_reader.specs.Tables.{with_text}

-- a text that isn't there has the length as its place
pub place-absent : (a : List ℕ) (t : List (List ℕ)) → is_in a t ≡ false → place_of a t ≡ length t
unfolding is_in place_of
place-absent a [] e = refl
place-absent a (b ∷ bs) e =
    let P : Bool → Type 0 = λ x. (x || is_in a bs) ≡ false → cond x 0 (suc (place_of a bs)) ≡ suc (length bs) in
    let on : (x : Bool) → P x = λ x. elim x as P [ true ↦ λ f. absurd cc | false ↦ λ f. ap (λ n. suc n) (place-absent a bs f) ] in
    on (bytes_eq a b) e

module _ {Z : Type 0} (a : List ℕ) where
  any-is_in : (ks : List (String Z)) → list_any (λ k. bytes_eq a (string_bytes k)) ks ≡ is_in a (map string_bytes ks)
  unfolding is_in
  any-is_in [] = refl
  any-is_in (k ∷ ks) = ap (λ b. bytes_eq a (string_bytes k) || b) (any-is_in ks)

  place-is : (ks : List (String Z)) → position_or_len (λ k. bytes_eq a (string_bytes k)) ks ≡ place_of a (map string_bytes ks)
  unfolding place_of
  place-is [] = refl
  place-is (k ∷ ks) =
      let P : Bool → Type 0 = λ x. cond (not x) (1 + position_or_len (λ k. bytes_eq a (string_bytes k)) ks) 0 ≡ cond x 0 (suc (place_of a (map string_bytes ks))) in
      let on : (x : Bool) → P x = λ x. elim x as P [ true ↦ refl | false ↦ omega (arith, place-is ks) ] in
      on (bytes_eq a (string_bytes k))

  module _ (ks : List (String Z)) (t : List (List ℕ)) (seen : t ≡ map string_bytes ks) where
    -- a text that is found
    pub found-place : (i : ℕ) → position (λ k. bytes_eq a (string_bytes k)) ks ≡ Some i → i ≡ place_of a t
    found-place i e = sym ((cond_some _ _ _ e).1) ∙ place-is ks ∙ ap (place_of a) (sym seen)

    pub found-in : (b : Bool) → b ≡ list_any (λ k. bytes_eq a (string_bytes k)) ks → is_in a t ≡ b
    found-in b e = ap (is_in a) seen ∙ sym (any-is_in ks) ∙ sym e

    pub found-same : true ≡ list_any (λ k. bytes_eq a (string_bytes k)) ks → t ≡ with_text a t
    found-same e = (let there : is_in a t ≡ true = found-in true e in ap (λ x. cond x t (t ++ a ∷ [])) (sym there))

    pub next-place : false ≡ list_any (λ k. bytes_eq a (string_bytes k)) ks → (n : ℕ) → n ≡ length ks → n ≡ place_of a t
    next-place e n h = h ∙ sym (length-map ks string_bytes) ∙ ap (λ (u : List (List ℕ)). length u) (sym seen) ∙ sym (place-absent a t (found-in false e))

    -- a text that is put in
    pub inserted : (o : String Z) (ns : List (String Z)) → string_bytes o ≡ a → ns ≡ insert_key string_eq ks o → map string_bytes ns ≡ with_text a t
    inserted o ns e f =
        let there : list_any (string_eq o) ks ≡ is_in a (map string_bytes ks) = ap (λ b. list_any (λ k. bytes_eq b (string_bytes k)) ks) e ∙ any-is_in ks in
        let P : Bool → Type 0 = λ x. map string_bytes (cond x ks (ks ++ o ∷ [])) ≡ cond x (map string_bytes ks) (map string_bytes ks ++ a ∷ []) in
        let on : (x : Bool) → P x = λ x. elim x as P [ true ↦ refl | false ↦ map-append string_bytes ks (o ∷ []) ∙ ap (λ b. map string_bytes ks ++ b ∷ []) e ] in
        ap (λ x. map string_bytes x) f ∙ ap (λ x. map string_bytes (cond x ks (ks ++ o ∷ []))) there ∙ on (is_in a (map string_bytes ks)) ∙ ap (with_text a) (sym seen)

each-at : {Z : Type 0} (P : String Z → Type 0) (ks : List (String Z)) (n : ℕ) (k : String Z) → AllByRecursion P ks → slice_get ks n ≡ Some k → P k
each-at P [] n k h e = absurd cc
each-at P (x ∷ xs) zero k h e = (let at : x ≡ k = cc in subst P at h.0)
each-at P (x ∷ xs) (suc n) k h e = each-at P xs n k h.1 e

-- a text that stands at a number has that number for its place
distinct-place : {Z : Type 0} (ks : List (String Z)) (n : ℕ) (k : String Z) → IsDistinct string_eq ks → slice_get ks n ≡ Some k → place_of (string_bytes k) (map string_bytes ks) ≡ n
unfolding place_of
distinct-place [] n k h e = absurd cc
distinct-place (x ∷ xs) zero k h e =
    let at : k ≡ x = cc in
    let same : bytes_eq (string_bytes k) (string_bytes x) ≡ true = subst (λ y. bytes_eq (string_bytes k) (string_bytes y) ≡ true) at (nat_list_eq_equiv.refl (string_bytes k)) in
    rw same refl
distinct-place (x ∷ xs) (suc n) k h e =
    let apart : bytes_eq (string_bytes k) (string_bytes x) ≡ false = nat_list_eq_equiv.symm (string_bytes k) (string_bytes x) ∙ each-at (λ y. string_eq x y ≡ false) xs n k (IsDistinct-head string_eq x xs h) e in
    rw apart (ap (λ m. suc m) (distinct-place xs n k (IsDistinct-tail string_eq x xs h) e))

pub stands-once : {Z : Type 0} (ks : List (String Z)) (t : List (List ℕ)) → t ≡ map string_bytes ks → (n : ℕ) (k : String Z) (a : List ℕ) → IsDistinct string_eq ks → a ≡ string_bytes k → slice_get ks n ≡ Some k → place_of a t ≡ n
stands-once ks t seen n k a h same e = ap (λ b. place_of b t) same ∙ ap (place_of (string_bytes k)) seen ∙ distinct-place ks n k h e

pub past-table : {Z : Type 0} (ks : List (String Z)) (t : List (List ℕ)) → t ≡ map string_bytes ks → (n : ℕ) → length ks ≤ n → ◌≡◌ {A = Option (List ℕ)} None (slice_get t n)
past-table ks t seen n h = sym (slice_get_past t n (rw (seen, length-map ks string_bytes) h))

-- ---- a text that is seen to stand at a number

stands-in : (a : List ℕ) (t : List (List ℕ)) (n : ℕ) → slice_get t n ≡ Some a → is_in a t ≡ true
unfolding is_in
stands-in a [] n e = absurd cc
stands-in a (x ∷ xs) zero e =
    let at : a ≡ x = cc in
    let same : bytes_eq a x ≡ true = (bytes_eq-Decides a x).1 at in
    rw same refl
stands-in a (x ∷ xs) (suc n) e =
    let rest : is_in a xs ≡ true = stands-in a xs n e in
    let P : Bool → Type 0 = λ y. (y || is_in a xs) ≡ true in
    let on : (y : Bool) → P y = λ y. elim y as P [ true ↦ refl | false ↦ rest ] in
    on (bytes_eq a x)

pub seen-there : (a b : List ℕ) (t : List (List ℕ)) (n : ℕ) → bytes_eq a b ≡ true → Some a ≡ slice_get t n → with_text b t ≡ t
seen-there a b t n same at =
    let there : is_in b t ≡ true = ap (λ c. is_in c t) (sym ((bytes_eq-Decides a b).0 same)) ∙ stands-in a t n (sym at) in
    ap (λ x. cond x t (t ++ b ∷ [])) there
