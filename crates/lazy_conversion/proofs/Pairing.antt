-- Two lists whose items are the same where they are mapped, one by one.
use Rattle.std.proofs.Common.{◌≡◌, ℕ, zero, suc, ◌+◌, ◌<◌, List, [], ◌∷◌, length, map, take, get_or, refl, sym, ap, ◌∙◌, arith, add-one}

at_place : {A B C : Type 0} (f : A → C) (g : B → C) (xs : List A) (ys : List B) (i : ℕ) (d : A) (e : B) → map f xs ≡ map g ys → i < length xs →
    f (get_or xs i d) ≡ g (get_or ys i e)
at_place f g [] ys i d e h l = absurd (omega arith)
at_place f g (x ∷ xs) [] i d e h l = cc
at_place f g (x ∷ xs) (y ∷ ys) zero d e h l = cc
at_place {C = C} f g (x ∷ xs) (y ∷ ys) (suc i) d e h l = let rest : ◌≡◌ {A = List C} (map f xs) (map g ys) = cc in at_place f g xs ys i d e rest (omega arith)

-- an item of each, which are the same where the lists are
pub items_same : {A B C : Type 0} (f : A → C) (g : B → C) (xs : List A) (ys : List B) (i : ℕ) (x : A) (y : B) → x ≡ get_or xs i x → y ≡ get_or ys i y →
    i < length xs → map f xs ≡ map g ys → f x ≡ g y
items_same f g xs ys i x y p q l h = ap f p ∙ at_place f g xs ys i x y h l ∙ sym (ap g q)

pub lengths_same : {A B C : Type 0} (f : A → C) (g : B → C) (xs : List A) (ys : List B) → map f xs ≡ map g ys → length xs ≡ length ys
lengths_same f g [] [] h = refl
lengths_same f g [] (y ∷ ys) h = cc
lengths_same f g (x ∷ xs) [] h = cc
lengths_same {C = C} f g (x ∷ xs) (y ∷ ys) h = let rest : ◌≡◌ {A = List C} (map f xs) (map g ys) = cc in omega (arith, lengths_same f g xs ys rest)

take_none : {A : Type 0} (xs : List A) → take 0 xs ≡ []
take_none [] = refl
take_none (x ∷ xs) = refl

taken_more : {A B C : Type 0} (f : A → C) (g : B → C) (xs : List A) (ys : List B) (i : ℕ) (d : A) (e : B) → i < length xs → i < length ys →
    map f (take i xs) ≡ map g (take i ys) → f (get_or xs i d) ≡ g (get_or ys i e) → map f (take (suc i) xs) ≡ map g (take (suc i) ys)
taken_more f g [] ys i d e l m h p = absurd (omega arith)
taken_more f g (x ∷ xs) [] i d e l m h p = absurd (omega arith)
taken_more f g (x ∷ xs) (y ∷ ys) zero d e l m h p = λ j. p j ∷ (ap (map f) (take_none xs) ∙ sym (ap (map g) (take_none ys))) j
taken_more {C = C} f g (x ∷ xs) (y ∷ ys) (suc i) d e l m h p =
    let first : f x ≡ g y = cc in
    let rest : ◌≡◌ {A = List C} (map f (take i xs)) (map g (take i ys)) = cc in
    let more = taken_more f g xs ys i d e (omega arith) (omega arith) rest p in
    λ j. first j ∷ more j

-- one item more of each
pub items_more : {A B C : Type 0} (f : A → C) (g : B → C) (xs : List A) (ys : List B) (i : ℕ) (x : A) (y : B) → x ≡ get_or xs i x → y ≡ get_or ys i y →
    i < length xs → i < length ys → map f (take i xs) ≡ map g (take i ys) → f x ≡ g y → map f (take (i + 1) xs) ≡ map g (take (i + 1) ys)
items_more f g xs ys i x y p q l m h e = rw add-one (taken_more f g xs ys i x y l m h (sym (ap f p) ∙ e ∙ ap g q))

take_all : {A : Type 0} (xs : List A) → take (length xs) xs ≡ xs
take_all [] = refl
take_all (x ∷ xs) = ap (◌∷◌ x) (take_all xs)

whole : {A : Type 0} (xs : List A) (n : ℕ) → n ≡ length xs → take n xs ≡ xs
whole xs n e = ap (λ m. take m xs) e ∙ take_all xs

-- all of them
pub items_all : {A B C : Type 0} (f : A → C) (g : B → C) (xs : List A) (ys : List B) (n : ℕ) → n ≡ length xs → n ≡ length ys →
    map f (take n xs) ≡ map g (take n ys) → map f xs ≡ map g ys
items_all f g xs ys n p q h = sym (ap (map f) (whole xs n p)) ∙ h ∙ ap (map g) (whole ys n q)
