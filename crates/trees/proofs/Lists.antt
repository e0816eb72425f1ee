-- Members of a list whose items are changed or turned, what is left of a list from an item on, and the parts of lists that are the same.
use Rattle.std.proofs.Common.{◌≡◌, ℕ, ◌<◌, ◌+◌, List, [], ◌∷◌, ◌++◌, length, map, reverse, drop, get_or, add-one, refl, sym, subst}
use Rattle.std.proofs.lemmas.List.{reverse-append}
use Rattle.std.proofs.Math.Seq.{drop-cons}
use Rattle.trees.specs.Membership.{Has, here, there}

pub has_map : {A B : Type 0} (f : A → B) {xs : List A} {x : A} → Has xs x → Has (map f xs) (f x)
has_map f here = here
has_map f (there h) = there (has_map f h)

-- what is in a changed list comes from an item
pub of_has_map : {A B : Type 0} (f : A → B) (xs : List A) {y : B} → Has (map f xs) y → (x : A) × Has xs x × (f x ≡ y)
of_has_map f [] h = elim h [ ]
of_has_map f (x ∷ xs) here = (x, here, refl)
of_has_map f (x ∷ xs) (there h) = let r = of_has_map f xs h in (r.0, there r.1, r.2)

-- what is in a list is in it with others behind it
pub has_left : {A : Type 0} {xs : List A} (ys : List A) {x : A} → Has xs x → Has (xs ++ ys) x
has_left ys here = here
has_left ys (there h) = there (has_left ys h)

has_last : {A : Type 0} (xs : List A) (x : A) → Has (xs ++ x ∷ []) x
has_last [] x = here
has_last (y ∷ xs) x = there (has_last xs x)

-- what is in a list is in it when it is reversed
pub has_turned : {A : Type 0} (xs : List A) {x : A} → Has xs x → Has (reverse xs) x
has_turned [] h = elim h [ ]
has_turned (x ∷ xs) here = subst (λ ys. Has ys x) (sym (reverse-append (x ∷ []) xs)) (has_last (reverse xs) x)
has_turned (y ∷ xs) {x} (there h) = subst (λ ys. Has ys x) (sym (reverse-append (y ∷ []) xs)) (has_left (y ∷ []) (has_turned xs h))

-- item i and those after it
pub next_is : {A : Type 0} (xs : List A) (i : ℕ) (a : A) → i < length xs → a ≡ get_or xs i a → drop i xs ≡ a ∷ drop (i + 1) xs
next_is xs i a h e = rw (add-one, drop-cons xs i a h, ← e) refl

-- lists that are the same have one first item and one rest

pub first_same : {A : Type 0} {x y : A} {xs ys : List A} → x ∷ xs ≡ y ∷ ys → x ≡ y
first_same e = cc

pub rest_same : {A : Type 0} {x y : A} {xs ys : List A} → x ∷ xs ≡ y ∷ ys → xs ≡ ys
rest_same e = cc
