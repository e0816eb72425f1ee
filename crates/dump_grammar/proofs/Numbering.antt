-- Numbers by first use.
use Rattle.std.proofs.Common.{◌≡◌, ℕ, zero, suc, List, [], ◌∷◌, ◌++◌, Some, Bool, true, false, cond, refl, sym, ap, subst, ◌∙◌, append-nil}
use Rattle.std.specs.Prelude.{bytes_eq, ◌||◌}
use Rattle.std.specs.Cmp.Lexicographic.{nat_list_eq_equiv}
use Rattle.dump_grammar.specs.Numbering.{without, firsts, is_in, place_of, text_at, IsNumbering}
use Rattle.dump_grammar.proofs.Words.{same_bytes}

itself : (a : List ℕ) → bytes_eq a a ≡ true
itself a = nat_list_eq_equiv.refl a

-- Texts are equal or not, in either order.
turned : (a b : List ℕ) → bytes_eq a b ≡ bytes_eq b a
turned a b =
    let P : Bool → Bool → Type 0 = λ x y. bytes_eq a b ≡ x → bytes_eq b a ≡ y → x ≡ y in
    let on : (x y : Bool) → P x y = λ x y. elim x as (λ x. P x y) [
      | true ↦ elim y as (λ y. P true y) [
        | true ↦ λ e f. refl
        | false ↦ λ e f. (let g : bytes_eq b a ≡ true = subst (λ c. bytes_eq c a ≡ true) (same_bytes a b e) (itself a) in absurd cc)
      ]
      | false ↦ elim y as (λ y. P false y) [
        | true ↦ λ e f. (let g : bytes_eq a b ≡ true = subst (λ c. bytes_eq c b ≡ true) (same_bytes b a f) (itself b) in absurd cc)
        | false ↦ λ e f. refl
      ]
    ] in
    on (bytes_eq a b) (bytes_eq b a) refl refl

-- Two texts, and a third that may be either.
module _ (a b c : List ℕ) where
  apart : bytes_eq a b ≡ true → bytes_eq c b ≡ false → bytes_eq a c ≡ false
  apart e f =
      let h : bytes_eq c a ≡ false = subst (λ x. bytes_eq c x ≡ false) (sym (same_bytes a b e)) f in
      turned a c ∙ h

-- ---- what stands in a list without a text

in-without : (a b : List ℕ) (xs : List (List ℕ)) → bytes_eq a b ≡ false → is_in a (without b xs) ≡ is_in a xs
unfolding without is_in
in-without a b [] e = refl
in-without a b (c ∷ cs) e =
    let P : Bool → Type 0 = λ x. bytes_eq c b ≡ x → is_in a (cond x (without b cs) (c ∷ without b cs)) ≡ (bytes_eq a c || is_in a cs) in
    let on : (x : Bool) → P x = λ x. elim x as P [
      | true ↦ λ f. (let g : bytes_eq a c ≡ false = subst (λ y. bytes_eq a y ≡ false) (sym (same_bytes c b f)) e in rw g (in-without a b cs e))
      | false ↦ λ f. ap (λ y. bytes_eq a c || y) (in-without a b cs e)
    ] in
    on (bytes_eq c b) refl

not-without : (a : List ℕ) (xs : List (List ℕ)) → is_in a (without a xs) ≡ false
unfolding without is_in
not-without a [] = refl
not-without a (c ∷ cs) =
    let P : Bool → Type 0 = λ x. bytes_eq c a ≡ x → is_in a (cond x (without a cs) (c ∷ without a cs)) ≡ false in
    let on : (x : Bool) → P x = λ x. elim x as P [
      | true ↦ λ f. not-without a cs
      | false ↦ λ f. rw (turned a c, f) (not-without a cs)
    ] in
    on (bytes_eq c a) refl

-- ---- a list in which no text stands twice

abbrev Apart : List (List ℕ) → Type 0
Apart [] = Unit {0}
Apart (a ∷ more) = (is_in a more ≡ false) × Apart more

without-less : (a b : List ℕ) (xs : List (List ℕ)) → is_in a xs ≡ false → is_in a (without b xs) ≡ false
unfolding without is_in
without-less a b [] e = refl
without-less a b (c ∷ cs) e =
    let P : Bool → Type 0 = λ x. bytes_eq a c ≡ x → (x || is_in a cs) ≡ false → is_in a (cond (bytes_eq c b) (without b cs) (c ∷ without b cs)) ≡ false in
    let on : (x : Bool) → P x = λ x. elim x as P [
      | true ↦ λ f e. absurd cc
      | false ↦ λ f e.
          let Q : Bool → Type 0 = λ y. is_in a (cond y (without b cs) (c ∷ without b cs)) ≡ false in
          let two : (y : Bool) → Q y = λ y. elim y as Q [ true ↦ without-less a b cs e | false ↦ rw f (without-less a b cs e) ] in
          two (bytes_eq c b)
    ] in
    on (bytes_eq a c) refl e

without-apart : (b : List ℕ) (xs : List (List ℕ)) → Apart xs → Apart (without b xs)
unfolding without
without-apart b [] h = tt
without-apart b (c ∷ cs) h =
    let Q : Bool → Type 0 = λ y. Apart (cond y (without b cs) (c ∷ without b cs)) in
    let two : (y : Bool) → Q y = λ y. elim y as Q [ true ↦ without-apart b cs h.1 | false ↦ (without-less c b cs h.0, without-apart b cs h.1) ] in
    two (bytes_eq c b)

firsts-apart : (xs : List (List ℕ)) → Apart (firsts xs)
unfolding firsts
firsts-apart [] = tt
firsts-apart (a ∷ more) = (not-without a (firsts more), without-apart a (firsts more) (firsts-apart more))

-- ---- what is numbered

only : (xs : List (List ℕ)) (a : List ℕ) → is_in a (firsts xs) ≡ is_in a xs
unfolding firsts is_in
only [] a = refl
only (b ∷ bs) a =
    let P : Bool → Type 0 = λ x. bytes_eq a b ≡ x → (x || is_in a (without b (firsts bs))) ≡ (x || is_in a bs) in
    let on : (x : Bool) → P x = λ x. elim x as P [ true ↦ λ e. refl | false ↦ λ e. in-without a b (firsts bs) e ∙ only bs a ] in
    on (bytes_eq a b) refl

text-of-place : (xs : List (List ℕ)) (a : List ℕ) → is_in a xs ≡ true → text_at (place_of a xs) xs ≡ Some a
unfolding is_in place_of text_at
text-of-place [] a e = absurd cc
text-of-place (b ∷ bs) a e =
    let P : Bool → Type 0 = λ x. bytes_eq a b ≡ x → (x || is_in a bs) ≡ true → text_at (cond x 0 (suc (place_of a bs))) (b ∷ bs) ≡ Some a in
    let on : (x : Bool) → P x = λ x. elim x as P [
      | true ↦ λ f e. ap Some (sym (same_bytes a b f))
      | false ↦ λ f e. text-of-place bs a e
    ] in
    on (bytes_eq a b) refl e

text-is_in : (xs : List (List ℕ)) (n : ℕ) (a : List ℕ) → text_at n xs ≡ Some a → is_in a xs ≡ true
unfolding is_in text_at
text-is_in [] n a e = absurd cc
text-is_in (b ∷ bs) zero a e = (let at : b ≡ a = cc in rw (subst (λ c. bytes_eq a c ≡ true) (sym at) (itself a)) refl)
text-is_in (b ∷ bs) (suc n) a e = rw (text-is_in bs n a e) (elim (bytes_eq a b) as (λ x. (x || true) ≡ true) [ true ↦ refl | false ↦ refl ])

place-of-text : (xs : List (List ℕ)) (n : ℕ) (a : List ℕ) → Apart xs → text_at n xs ≡ Some a → place_of a xs ≡ n
unfolding place_of text_at
place-of-text [] n a h e = absurd cc
place-of-text (b ∷ bs) zero a h e = (let at : b ≡ a = cc in rw (subst (λ c. bytes_eq a c ≡ true) (sym at) (itself a)) refl)
place-of-text (b ∷ bs) (suc n) a h e =
    let P : Bool → Type 0 = λ x. bytes_eq a b ≡ x → cond x 0 (suc (place_of a bs)) ≡ suc n in
    let on : (x : Bool) → P x = λ x. elim x as P [
      | true ↦ λ f. (let g : is_in b bs ≡ true = subst (λ c. is_in c bs ≡ true) (same_bytes a b f) (text-is_in bs n a e) in let k : is_in b bs ≡ false = h.0 in absurd cc)
      | false ↦ λ f. ap (λ m. suc m) (place-of-text bs n a h.1 e)
    ] in
    on (bytes_eq a b) refl

-- ---- a further use

without-append : (a : List ℕ) (xs ys : List (List ℕ)) → without a (xs ++ ys) ≡ without a xs ++ without a ys
unfolding without
without-append a [] ys = refl
without-append a (c ∷ cs) ys =
    let P : Bool → Type 0 = λ x. cond x (without a (cs ++ ys)) (c ∷ without a (cs ++ ys)) ≡ cond x (without a cs) (c ∷ without a cs) ++ without a ys in
    let on : (x : Bool) → P x = λ x. elim x as P [ true ↦ without-append a cs ys | false ↦ ap (λ (zs : List (List ℕ)). c ∷ zs) (without-append a cs ys) ] in
    on (bytes_eq c a)

without-one : (a b : List ℕ) → without b (a ∷ []) ≡ cond (bytes_eq a b) [] (a ∷ [])
unfolding without
without-one a b = refl

next : (xs : List (List ℕ)) (a : List ℕ) → firsts (xs ++ a ∷ []) ≡ cond (is_in a xs) (firsts xs) (firsts xs ++ a ∷ [])
unfolding firsts is_in without
next [] a = refl
next (b ∷ bs) a =
    let P : Bool → Bool → Type 0 = λ x y. bytes_eq a b ≡ x → is_in a bs ≡ y → b ∷ without b (cond y (firsts bs) (firsts bs ++ a ∷ [])) ≡ cond (x || y) (b ∷ without b (firsts bs)) (b ∷ without b (firsts bs) ++ a ∷ []) in
    let on : (x y : Bool) → P x y = λ x y. elim y as (λ y. P x y) [
      | true ↦ λ e f. elim x as (λ x. b ∷ without b (firsts bs) ≡ cond (x || true) (b ∷ without b (firsts bs)) (b ∷ without b (firsts bs) ++ a ∷ [])) [ true ↦ refl | false ↦ refl ]
      | false ↦ elim x as (λ x. P x false) [
        | true ↦ λ e f. ap (λ (zs : List (List ℕ)). b ∷ zs) (without-append b (firsts bs) (a ∷ []) ∙ ap (λ x. without b (firsts bs) ++ cond x [] (a ∷ [])) e ∙ append-nil (without b (firsts bs)))
        | false ↦ λ e f. ap (λ (zs : List (List ℕ)). b ∷ zs) (without-append b (firsts bs) (a ∷ []) ∙ ap (λ x. without b (firsts bs) ++ cond x [] (a ∷ [])) e)
      ]
    ] in
    ap (λ (zs : List (List ℕ)). b ∷ without b zs) (next bs a) ∙ on (bytes_eq a b) (is_in a bs) refl refl

pub numbering : IsNumbering
numbering = record {
  used = λ uses a e. text-of-place (firsts uses) a (only uses a ∙ e);
  one = λ uses n a e. place-of-text (firsts uses) n a (firsts-apart uses) e;
  only = only;
  next = next;
}
