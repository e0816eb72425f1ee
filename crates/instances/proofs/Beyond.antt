-- The limits as facts and as tests, of terms and of lists of terms.
use Rattle.std.proofs.Common.{◌≡◌, ℕ, zero, suc, ◌<◌, ◌^◌, inl, inr, true, false, List, [], ◌∷◌, ◌++◌, length, get_or, nat_lt, map, subst as along, arith}
use Rattle.std.specs.Bool.{IsTrue}
use Rattle.std.proofs.lemmas.Bool.{ltb-true, or_cases}
use Rattle.trees.specs.Measures.{depth, above, depth_limit, IsBeyond}
use Rattle.pc_terms.specs.Syntax.{Term}
use Rattle.pc_rules.specs.DirectedRun.{is_beyond, any_beyond}
use Rattle.pc_rules.proofs.Following.{beyond_is, or_left, or_right}

pub true_beyond : (t : Term) → IsTrue (is_beyond t) → IsBeyond t
true_beyond t e = elim (or_cases (nat_lt depth_limit (depth t)) (nat_lt (2 ^ 32) (above t)) e) [
  | inl h ↦ inl (ltb-true depth_limit (depth t) h)
  | inr h ↦ inr (ltb-true (2 ^ 32) (above t) h)
]

pub any_beyond-left : (xs ys : List Term) → IsTrue (any_beyond xs) → IsTrue (any_beyond (xs ++ ys))
any_beyond-left [] ys e = cc
any_beyond-left (x ∷ xs) ys e = elim (or_cases (is_beyond x) (any_beyond xs) e) [
  | inl h ↦ or_left (is_beyond x) (any_beyond (xs ++ ys)) h
  | inr h ↦ or_right (is_beyond x) (any_beyond (xs ++ ys)) (any_beyond-left xs ys h)
]

pub any_beyond-right : (xs ys : List Term) → IsTrue (any_beyond ys) → IsTrue (any_beyond (xs ++ ys))
any_beyond-right [] ys e = e
any_beyond-right (x ∷ xs) ys e = or_right (is_beyond x) (any_beyond (xs ++ ys)) (any_beyond-right xs ys e)

pub any_beyond-last : (xs : List Term) (t : Term) → IsBeyond t → IsTrue (any_beyond (xs ++ (t ∷ [])))
any_beyond-last xs t h = any_beyond-right xs (t ∷ []) (or_left (is_beyond t) false (beyond_is t h))

-- where the item that f gives for one of a list is beyond the limits, one of all that it gives is
pub any_beyond-map : (f : Term → Term) (xs : List Term) (i : ℕ) (o : Term) → i < length xs → IsBeyond (f (get_or xs i o)) → IsTrue (any_beyond (map f xs))
any_beyond-map f [] i o l h = absurd (omega arith)
any_beyond-map f (x ∷ xs) zero o l h = or_left (is_beyond (f x)) (any_beyond (map f xs)) (beyond_is (f x) h)
any_beyond-map f (x ∷ xs) (suc i) o l h = or_right (is_beyond (f x)) (any_beyond (map f xs)) (any_beyond-map f xs i o (omega arith) h)

-- the same, at an item that a loop has read
pub any_beyond-one : (f : Term → Term) (xs : List Term) (i : ℕ) (x : Term) → x ≡ get_or xs i x → i < length xs → IsBeyond (f x) → IsTrue (any_beyond (map f xs))
any_beyond-one f xs i x is l h = any_beyond-map f xs i x l (along (λ (y : Term). IsBeyond (f y)) is h)
