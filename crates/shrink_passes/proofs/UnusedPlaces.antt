-- Which variables a term doesn't name, walked from its root.
use Rattle.std.proofs.Common.{◌≡◌, ℕ, zero, suc, ◌+◌, ◌-◌, ◌<◌, ◌≤◌, Bool, true, false, ◌&&◌, ◌||◌, List, [], ◌∷◌, length, reverse, refl, sym, ap, ◌∙◌, subst, arith, ◌⊎◌, ⊎_elim}
use Rattle.std.specs.Prelude.{nat_eq, if◌then◌else◌}
use Rattle.std.proofs.lemmas.Bool.{cases_lt, false≢true}
use Rattle.std.proofs.Math.Bool.{or-false}
use Rattle.std.proofs.lemmas.List.{length-reverse}
use Rattle.trees.specs.Tree.{Rel, Next}
use Rattle.trees.specs.Closed.{Closed}
use Rattle.pc_terms.specs.declared.leaf.FamilyId.{FamilyId}
use Rattle.box_terms.specs.BoxSyntax.{BoxTerm, BoxTerms, Box, BLambda, BLetIn, BApp, BConst, BConstruct, BCase, BFix}
use Rattle.lambda_box.specs.ClosureEvaluation.{names, names_terms}
use Rattle.shrink_passes.specs.DropParams.{leading, is_unused}
use Rattle.shrink_passes.specs.DeadPlaces.{flag_at, is_below, is_unnamed, are_unnamed, is_spare}
use Rattle.shrink_passes.proofs.Following.{names_past}
use Rattle.shrink_passes.proofs.Flagging.{flag_reversed, flag_past}

-- a term that is closed below n names none from n on
pub closed_unnamed : (t : BoxTerm) (n i : ℕ) → Closed n t → n ≤ i → is_unnamed i t ≡ true
closed_unnamed t n i c l = ap (λ z. if z then false else true) (names_past n t i c l)

-- by the former

neither : (x y : Bool) → (if x || y then false else true) ≡ ((if x then false else true) && (if y then false else true))
neither true y = refl
neither false y = refl

pub unnamed_lambda : (i j : ℕ) (b : BoxTerm) → j ≡ suc i → is_unnamed i (BLambda b) ≡ is_unnamed j b
unnamed_lambda i j b e = let q : 1 + i ≡ j = omega (arith, e) in ap (λ z. if z then false else true) (or-false (names b (1 + i)) ∙ ap (names b) q)

pub unnamed_let : (i j : ℕ) (a b : BoxTerm) → j ≡ suc i → is_unnamed i (BLetIn a b) ≡ (is_unnamed i a && is_unnamed j b)
unnamed_let i j a b e =
    let q : 1 + i ≡ j = omega (arith, e) in
    let p : 0 + i ≡ i = omega arith in
    ap (λ z. if z then false else true) (ap (λ n. names a n || (names b (1 + i) || false)) p ∙ ap (λ z. names a i || z) (or-false (names b (1 + i)) ∙ ap (names b) q)) ∙ neither (names a i) (names b j)

pub unnamed_app : (i : ℕ) (f a : BoxTerm) → is_unnamed i (BApp f a) ≡ (is_unnamed i f && is_unnamed i a)
unnamed_app i f a =
    let p : 0 + i ≡ i = omega arith in
    ap (λ z. if z then false else true) (ap (λ n. names f n || (names a n || false)) p ∙ ap (λ z. names f i || z) (or-false (names a i))) ∙ neither (names f i) (names a i)

pub unnamed_case : (i : ℕ) (f : FamilyId) (s : BoxTerm) (bs : BoxTerms) → is_unnamed i (BCase f s bs) ≡ (is_unnamed i s && are_unnamed i bs)
unnamed_case i f s bs =
    let p : 0 + i ≡ i = omega arith in
    ap (λ z. if z then false else true) (ap (λ n. names s n || (names_terms bs i || false)) p ∙ ap (λ z. names s i || z) (or-false (names_terms bs i))) ∙ neither (names s i) (names_terms bs i)

pub unnamed_fix : (i m : ℕ) (rargs : List ℕ) (bodies : BoxTerms) → is_unnamed i (BFix m rargs bodies) ≡ are_unnamed i bodies
unnamed_fix i m rargs bodies = ap (λ z. if z then false else true) (or-false (names_terms bodies i))

pub unnamed_next : (i j m : ℕ) (t : BoxTerm) (ts : BoxTerms) → j ≡ m + i → are_unnamed i (Next m t ts) ≡ (is_unnamed j t && are_unnamed i ts)
unnamed_next i j m t ts e = neither (names t (m + i)) (names_terms ts i) ∙ ap (λ n. is_unnamed n t && are_unnamed i ts) (sym e)

pub unnamed_variable : (i j n : ℕ) → n ≤ i → is_unnamed (n + j) (Rel i) ≡ (if nat_eq (i - n) j then false else true)
unnamed_variable i j n l = let e : nat_eq i (n + j) ≡ nat_eq (i - n) j = grind (arith, l) in ap (λ z. if z then false else true) e

-- the variables of leading lambdas

spare_inside : (m : ℕ) (t : BoxTerm) (i : ℕ) → is_spare m t (i + leading t) ≡ (is_below i m && is_unnamed i t)
spare_inside m (BLambda b) i =
    let p : i + leading (BLambda b) ≡ suc i + leading b = omega arith in
    ap (is_spare (suc m) b) p ∙ spare_inside (suc m) b (suc i) ∙ ap (λ z. is_below i m && z) (sym (unnamed_lambda i (suc i) b refl))
spare_inside m t i = let p : i + 0 ≡ i = omega arith in ap (λ j. is_below j m && is_unnamed j t) p

spare_unused : (n : ℕ) (t : BoxTerm) (p q : ℕ) → p + q + 1 ≡ leading t → is_unused p t ≡ is_spare n t q
spare_unused n (BLambda b) zero q e = let z : q ≡ 0 + leading b = omega (arith, e) in sym (ap (is_spare (suc n) b) z ∙ spare_inside (suc n) b 0)
spare_unused n (BLambda b) (suc p) q e = spare_unused (suc n) b p q (omega (arith, e))
spare_unused n t p q e = absurd (omega (arith, e))

pub unused_past : (p : ℕ) (t : BoxTerm) → leading t ≤ p → is_unused p t ≡ false
unused_past zero (BLambda b) l = absurd (omega arith)
unused_past (suc p) (BLambda b) l = unused_past p b (omega arith)
unused_past zero t l = refl
unused_past (suc p) t l = refl

pub unused_leads : (p : ℕ) (t : BoxTerm) → is_unused p t ≡ true → p < leading t
unused_leads p t e = ⊎_elim (λ l. l) (λ l. absurd (false≢true (sym (unused_past p t l) ∙ e))) (cases_lt p (leading t))

pub spare_reversed : (t : BoxTerm) (xs : List Bool) → ((j : ℕ) → flag_at j xs ≡ is_spare 0 t j) → length xs ≡ leading t → (p : ℕ) → flag_at p (reverse xs) ≡ is_unused p t
spare_reversed t xs is len p = ⊎_elim
    (λ l.
    let q : p + (leading t - 1 - p) + 1 ≡ leading t = omega (arith, l) in
    flag_reversed xs p (leading t - 1 - p) (q ∙ sym len) ∙ is (leading t - 1 - p) ∙ sym (spare_unused 0 t p (leading t - 1 - p) q))
    (λ l. flag_past (reverse xs) p (omega (arith, l, len, length-reverse xs)) ∙ sym (unused_past p t l))
    (cases_lt p (leading t))
