-- Lists of terms, branches and definitions, from one item on.
use Rattle.std.proofs.Common.{◌≡◌, ◌∙◌, ap, refl, ℕ, suc, ◌<◌, ◌+◌, ◌==◌, ◌&&◌, Bool, true, false, List, [], ◌∷◌, length, drop, get_or, ◌≢◌, eq-eqb}
use Rattle.std.proofs.lemmas.Bool.{and_right}
use Rattle.pc_terms.specs.Syntax.{Term}
use Rattle.pc_terms.specs.View.{tree_of}
use Rattle.pc_terms.specs.Formed.{binders_of}
use Rattle.pc_terms.specs.Lists.{arms_of, rargs_of}
use Rattle.pc_terms.specs.declared.term.Branch.{Branch}
use Rattle.pc_terms.specs.declared.term.Def.{Def}
use Rattle.pc_terms.specs.declared.term.Match.{Match}
use Rattle.pc_terms.specs.declared.term.Node.TheVariants.{Case}
use Rattle.pc_terms.proofs.Forms.{number_terms}
use Rattle.calculus_rules.specs.Same.{same_numbers, same_families}
use Rattle.pc_rules.specs.DirectedComparison.{alike}
use Rattle.pc_rules.proofs.ListSteps.{next_is}

-- numbers that are the same from an item on

pub binders_next : (xs ys : List Branch) (i : ℕ) (x y : Branch) → i < length xs → i < length ys → x ≡ get_or xs i x → y ≡ get_or ys i y →
    same_numbers (binders_of (arms_of (drop i xs))) (binders_of (arms_of (drop i ys)))
    ≡ ((x.binders == y.binders) && same_numbers (binders_of (arms_of (drop (i + 1) xs))) (binders_of (arms_of (drop (i + 1) ys))))
binders_next xs ys i x y h k e e' = rw (next_is xs i x h e, next_is ys i y k e') refl

pub rargs_next : (xs ys : List Def) (i : ℕ) (x y : Def) → i < length xs → i < length ys → x ≡ get_or xs i x → y ≡ get_or ys i y →
    same_numbers (rargs_of (drop i xs)) (rargs_of (drop i ys)) ≡ ((x.rarg == y.rarg) && same_numbers (rargs_of (drop (i + 1) xs)) (rargs_of (drop (i + 1) ys)))
rargs_next xs ys i x y h k e e' = rw (next_is xs i x h e, next_is ys i y k e') refl

-- the first numbers are the same

test_true : (m n : ℕ) (b : Bool) → m ≡ n → ((m == n) && b) ≡ b
test_true m n b e = let t : (m == n) ≡ true = eq-eqb m n e in rw t refl

module _ (xs ys : List Branch) (i : ℕ) (x y : Branch) (h : i < length xs) (k : i < length ys) (e : x ≡ get_or xs i x) (e' : y ≡ get_or ys i y) where
  abbrev rest_binders : ℕ → Bool
  rest_binders j = same_numbers (binders_of (arms_of (drop j xs))) (binders_of (arms_of (drop j ys)))

  pub binders_same : x.binders ≡ y.binders → rest_binders i ≡ rest_binders (i + 1)
  binders_same p = binders_next xs ys i x y h k e e' ∙ test_true x.binders y.binders (rest_binders (i + 1)) p

module _ (xs ys : List Def) (i : ℕ) (x y : Def) (h : i < length xs) (k : i < length ys) (e : x ≡ get_or xs i x) (e' : y ≡ get_or ys i y) where
  abbrev rest_rargs : ℕ → Bool
  rest_rargs j = same_numbers (rargs_of (drop j xs)) (rargs_of (drop j ys))

  pub rargs_same : x.rarg ≡ y.rarg → rest_rargs i ≡ rest_rargs (i + 1)
  rargs_same p = rargs_next xs ys i x y h k e e' ∙ test_true x.rarg y.rarg (rest_rargs (i + 1)) p

-- lists of other lengths are not the same

pub binders_other : (xs ys : List Branch) → length xs ≢ length ys → same_numbers (binders_of (arms_of xs)) (binders_of (arms_of ys)) ≡ false
binders_other [] [] h = absurd (h refl)
binders_other [] (y ∷ ys) h = refl
binders_other (x ∷ xs) [] h = refl
binders_other (x ∷ xs) (y ∷ ys) h = and_right (x.binders == y.binders) _ (binders_other xs ys (λ e. h (ap suc e)))

-- the counts of two matches decide whether they are alike

pub matches_alike : (x y : Match) (a b : Term) (r : Bool) → tree_of (Case x) ≡ a → tree_of (Case y) ≡ b →
    r ≡ (same_families x.family y.family && ((length x.params == length y.params) && ((x.binders == y.binders) && same_numbers (binders_of (arms_of x.branches)) (binders_of (arms_of y.branches))))) →
    r ≡ alike a b
matches_alike x y a b r ea eb e = rw (← ea, ← eb, number_terms x.params, number_terms y.params) e
