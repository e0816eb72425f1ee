-- Lists that are written item by item.
use Rattle.std.proofs.Common.{◌≡◌, ℕ, suc, ◌+◌, ◌-◌, ◌<◌, ◌≤◌, List, Option, [], ◌∷◌, length, drop, get_or, refl, sym, ap, subst, ◌∙◌, arith, drop-cons, add-one}
use Rattle.std.proofs.Math.ListN.{drop_of_length-le}
use Rattle.sexp_reader.specs.Text.{Text}
use Rattle.dump_printer.specs.Writing.{Start, IsOn}
use Rattle.dump_printer.specs.declared.writing.Progress.{Progress}
use Rattle.dump_printer.specs.CanonicalTerms.{each, anonymous, anonymous_names}

pub each-none : {X : Type 0} (piece : X → List Text → List Text) (more : List Text) → each piece [] more ≡ more
unfolding each
each-none piece more = refl

pub each-next : {X : Type 0} (piece : X → List Text → List Text) (x : X) (xs : List X) (more : List Text) → each piece (x ∷ xs) more ≡ piece x (each piece xs more)
unfolding each
each-next piece x xs more = refl

pub each-drop : {X : Type 0} (piece : X → List Text → List Text) (xs : List X) (i : ℕ) (x : X) (more : List Text) → i < length xs → each piece (drop i xs) more ≡ piece (get_or xs i x) (each piece (drop (i + 1) xs) more)
each-drop piece xs i x more h = rw (add-one, drop-cons xs i x) (each-next piece (get_or xs i x) (drop (suc i) xs) more)

pub anonymous-none : (more : List Text) → anonymous_names 0 more ≡ more
unfolding anonymous_names
anonymous-none more = refl

anonymous-suc : (n : ℕ) (more : List Text) → anonymous_names (suc n) more ≡ anonymous ∷ anonymous_names n more
unfolding anonymous_names
anonymous-suc n more = refl

pub anonymous-next : (n i : ℕ) (more : List Text) → i < n → anonymous_names (n - i) more ≡ anonymous ∷ anonymous_names (n - (i + 1)) more
anonymous-next n i more h = let e : n - i ≡ suc (n - (i + 1)) = omega arith in rw e (anonymous-suc (n - (i + 1)) more)

pub anonymous-end : (n i : ℕ) (more : List Text) → n ≤ i → anonymous_names (n - i) more ≡ more
anonymous-end n i more h = let e : n - i ≡ 0 = omega arith in rw e (anonymous-none more)

pub each-end : {X : Type 0} (piece : X → List Text → List Text) (xs : List X) (i : ℕ) (more : List Text) → length xs ≤ i → each piece (drop i xs) more ≡ more
each-end piece xs i more h = rw (drop_of_length-le xs h) (each-none piece more)

-- other tokens that are the same
pub along : {s : Start} {t : Option (List ℕ)} {f : ℕ} {p : Progress} {us vs : List Text} → us ≡ vs → IsOn s t f p us → IsOn s t f p vs
along {s} {t} {f} {p} e h = subst (λ (ts : List Text). IsOn s t f p ts) e h

pub each-item : {X : Type 0} (piece : X → List Text → List Text) (xs : List X) (i : ℕ) (x : X) (more : List Text) → x ≡ get_or xs i x → i < length xs → each piece (drop i xs) more ≡ piece x (each piece (drop (i + 1) xs) more)
each-item piece xs i x more e h = each-drop piece xs i x more h ∙ sym (ap (λ y. piece y (each piece (drop (i + 1) xs) more)) e)
