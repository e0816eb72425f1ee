-- What the walk notes of a term is what its uses are asked for.
use Rattle.std.proofs.Common.{◌≡◌, ℕ, zero, suc, ◌+◌, ◌<◌, ◌≤◌, Bool, true, false, ◌&&◌, List, [], ◌∷◌, ◌++◌, Option, Some, None, reverse, refl, sym, ap, ◌∙◌, subst, arith}
use Rattle.std.specs.Prelude.{nat_eq, if◌then◌else◌}
use Rattle.std.proofs.Math.Bool.{and-true}
use Rattle.std.proofs.Math.Dec.{eqb-suc-suc}
use Rattle.trees.specs.Tree.{Rel, Done, Next}
use Rattle.trees.specs.Measures.{depth}
use Rattle.box_terms.specs.BoxSyntax.{BoxTerm, BoxTerms, Box, BLambda, BLetIn, BApp, BConst, BConstruct, BCase, BFix}
use Rattle.shrink_passes.specs.declared.flags.Loss.TheVariants.{Place, From}
use Rattle.shrink_passes.specs.declared.noting.Use.{Use}
use Rattle.shrink_passes.specs.DropParams.{is_box, box_at, fits, fits_terms}
use Rattle.shrink_passes.specs.DeadPlaces.{is_below, keeps_place, one_more, spine, box_there, is_reached, noted}

-- where a head gets further arguments: whether argument p of those after the first m is box, or is one of these
abbrev past : ℕ → ℕ → List BoxTerm → Bool
past p zero xs = box_at p xs
past zero (suc m) xs = true
past (suc p) (suc m) xs = past p m xs

abbrev pub tail : ℕ → ℕ → Option Use → List BoxTerm → Bool
tail k p None xs = true
tail k p (Some u) xs = if nat_eq u.name.0 k then past p u.arguments xs else true

past_one : (p m : ℕ) (a : BoxTerm) (xs : List BoxTerm) → past p m (a ∷ xs) ≡ ((if nat_eq m p then is_box a else true) && past p (suc m) xs)
past_one zero zero a xs = sym (and-true (is_box a))
past_one (suc p) zero a xs = let e : nat_eq 0 (suc p) ≡ false = grind arith in sym (ap (λ z. (if z then is_box a else true) && past (suc p) 1 xs) e)
past_one zero (suc m) a xs = let e : nat_eq (suc m) 0 ≡ false = grind arith in sym (ap (λ z. (if z then is_box a else true) && true) e)
past_one (suc p) (suc m) a xs = past_one p m a xs ∙ ap (λ z. (if z then is_box a else true) && past p (suc m) xs) (sym (eqb-suc-suc m p))

tail_one : (k p : ℕ) (h : Option Use) (a : BoxTerm) (xs : List BoxTerm) → tail k p h (a ∷ xs) ≡ (box_there k p h a && tail k p (one_more h) xs)
tail_one k p None a xs = refl
tail_one k p (Some u) a xs = either (nat_eq u.name.0 k)
  where
    either : (z : Bool) → (if z then past p u.arguments (a ∷ xs) else true) ≡ ((if z then (if nat_eq u.arguments p then is_box a else true) else true) && (if z then past p (suc u.arguments) xs else true))
    either true = past_one p u.arguments a xs
    either false = refl

and_swap : (n b t f : Bool) → ((n && (b && t)) && f) ≡ ((n && (b && f)) && t)
and_swap true true true true = refl
and_swap true true true false = refl
and_swap true true false true = refl
and_swap true true false false = refl
and_swap true false t f = refl
and_swap false b t f = refl

fits_as_noted : (k p : ℕ) (xs : List BoxTerm) (t : BoxTerm) → fits k p xs t ≡ (noted k p t && tail k p (spine t) xs)
fits_as_noted k p xs (BApp f a) =
    ap (λ z. z && fits k p [] a) (fits_as_noted k p (a ∷ xs) f ∙ ap (λ z. noted k p f && z) (tail_one k p (spine f) a xs))
    ∙ and_swap (noted k p f) (box_there k p (spine f) a) (tail k p (one_more (spine f)) xs) (fits k p [] a)
fits_as_noted k p xs (BConst c) = refl
fits_as_noted k p xs (Rel i) = refl
fits_as_noted k p xs Box = refl
fits_as_noted k p xs (BLambda b) = sym (and-true (fits k p [] b))
fits_as_noted k p xs (BLetIn a t) = sym (and-true (fits k p [] a && fits k p [] t))
fits_as_noted k p xs (BConstruct f c) = refl
fits_as_noted k p xs (BCase f s bs) = sym (and-true (fits k p [] s && fits_terms k p bs))
fits_as_noted k p xs (BFix i rargs bodies) = sym (and-true (fits_terms k p bodies))

past_none : (p m : ℕ) → past p m [] ≡ is_below p m
past_none p zero = refl
past_none zero (suc m) = refl
past_none (suc p) (suc m) = past_none p m

reached : (k p : ℕ) (h : Option Use) → tail k p h [] ≡ is_reached k p h
reached k p None = refl
reached k p (Some u) = ap (λ z. if nat_eq u.name.0 k then z else true) (past_none p u.arguments)

pub fits_noted : (k p : ℕ) (t : BoxTerm) → fits k p [] t ≡ (noted k p t && is_reached k p (spine t))
fits_noted k p t = fits_as_noted k p [] t ∙ ap (λ z. noted k p t && z) (reached k p (spine t))

-- a use has fewer arguments than its term is deep

abbrev pub arguments_of : Option Use → ℕ
arguments_of None = 0
arguments_of (Some u) = u.arguments

one_more_arguments : (h : Option Use) → arguments_of (one_more h) ≤ suc (arguments_of h)
one_more_arguments None = omega arith
one_more_arguments (Some u) = omega arith

pub spine_depth : (t : BoxTerm) → suc (arguments_of (spine t)) ≤ depth t
spine_depth (BApp f a) = omega (arith, spine_depth f, one_more_arguments (spine f))
spine_depth (BConst c) = omega arith
spine_depth t = omega arith

pub use_depth : (t : BoxTerm) (u : Use) → Some u ≡ spine t → suc u.arguments ≤ depth t
use_depth t u e = let q : u.arguments ≡ arguments_of (spine t) = ap arguments_of e in omega (arith, q, spine_depth t)

-- what one argument more notes

pub boxed_there : (k p : ℕ) (u : Use) (a : BoxTerm) → is_box a ≡ true → box_there k p (Some u) a ≡ true
boxed_there k p u a e = either (nat_eq u.name.0 k) (nat_eq u.arguments p)
  where
    either : (y z : Bool) → (if y then (if z then is_box a else true) else true) ≡ true
    either true true = e
    either true false = refl
    either false z = refl

pub lost_there : (k p : ℕ) (u : Use) (a : BoxTerm) → is_box a ≡ false → keeps_place u.name.0 (Place u.arguments) k p ≡ box_there k p (Some u) a
lost_there k p u a e = ap (λ z. if nat_eq u.name.0 k then (if nat_eq u.arguments p then z else true) else true) (sym e)
