-- The nodes of a list's members, and the depth at which a term is cut.
use Rattle.std.proofs.Common.{◌≡◌, ◌∙◌, sym, ap, refl, ℕ, zero, suc, ◌+◌, ◌-◌, ◌<◌, ◌≤◌, Bool, if◌then◌else◌, List, ◌∷◌, length, drop, get_or, true, false, arith}
use Rattle.std.specs.Prelude.{nat_le}
use Rattle.std.proofs.lemmas.Bool.{le-leb, lt-leb}
use Rattle.std.proofs.lemmas.List.{at_drop_more, drop_all}
use Rattle.trees.specs.Tree.{terms_of}
use Rattle.pc_terms.specs.Syntax.{Term}
use Rattle.pc_terms.specs.Lists.{arms_of, types_of, bodies_of}
use Rattle.pc_terms.specs.declared.term.Branch.{Branch}
use Rattle.pc_terms.specs.declared.term.Def.{Def}
use Rattle.dump_printer.specs.Cut.{nodes_within, sum_below, sum_of_terms, deepest_from}

-- a number that is made of what is left of a list, at an item that a loop has read
at_next : {A : Type 0} (made : List A → ℕ) (xs : List A) (i : ℕ) (x : A) → i < length xs → x ≡ get_or xs i x → made (drop i xs) ≡ made (x ∷ drop (i + 1) xs)
at_next made xs i x l is = at_drop_more made xs i x l ∙ ap (λ y. made (y ∷ drop (i + 1) xs)) (sym is)

module _ (f : Term → ℕ) where
  pub next_term : (ts : List Term) (i : ℕ) (t : Term) → i < length ts → t ≡ get_or ts i t →
      sum_of_terms f (terms_of (drop i ts)) ≡ f t + sum_of_terms f (terms_of (drop (i + 1) ts))
  unfolding sum_of_terms
  next_term ts i t l is = at_next (λ us. sum_of_terms f (terms_of us)) ts i t l is

  pub no_term : (ts : List Term) (i : ℕ) → length ts ≤ i → sum_of_terms f (terms_of (drop i ts)) ≡ 0
  unfolding sum_of_terms
  no_term ts i l = ap (λ us. sum_of_terms f (terms_of us)) (drop_all i ts l)

  pub next_arm : (bs : List Branch) (i : ℕ) (b : Branch) → i < length bs → b ≡ get_or bs i b →
      sum_of_terms f (arms_of (drop i bs)) ≡ f b.body + sum_of_terms f (arms_of (drop (i + 1) bs))
  unfolding sum_of_terms
  next_arm bs i b l is = at_next (λ us. sum_of_terms f (arms_of us)) bs i b l is

  pub no_arm : (bs : List Branch) (i : ℕ) → length bs ≤ i → sum_of_terms f (arms_of (drop i bs)) ≡ 0
  unfolding sum_of_terms
  no_arm bs i l = ap (λ us. sum_of_terms f (arms_of us)) (drop_all i bs l)

  pub next_type : (ds : List Def) (i : ℕ) (x : Def) → i < length ds → x ≡ get_or ds i x →
      sum_of_terms f (types_of (drop i ds)) ≡ f x.ty + sum_of_terms f (types_of (drop (i + 1) ds))
  unfolding sum_of_terms
  next_type ds i x l is = at_next (λ us. sum_of_terms f (types_of us)) ds i x l is

  pub next_body : (m : ℕ) (ds : List Def) (i : ℕ) (x : Def) → i < length ds → x ≡ get_or ds i x →
      sum_of_terms f (bodies_of m (drop i ds)) ≡ f x.body + sum_of_terms f (bodies_of m (drop (i + 1) ds))
  unfolding sum_of_terms
  next_body m ds i x l is = at_next (λ us. sum_of_terms f (bodies_of m us)) ds i x l is

  pub no_type : (ds : List Def) (i : ℕ) → length ds ≤ i → sum_of_terms f (types_of (drop i ds)) ≡ 0
  unfolding sum_of_terms
  no_type ds i l = ap (λ us. sum_of_terms f (types_of us)) (drop_all i ds l)

  pub no_body : (m : ℕ) (ds : List Def) (i : ℕ) → length ds ≤ i → sum_of_terms f (bodies_of m (drop i ds)) ≡ 0
  unfolding sum_of_terms
  no_body m ds i l = ap (λ us. sum_of_terms f (bodies_of m us)) (drop_all i ds l)

pub none_within : (t : Term) → nodes_within 0 t ≡ 0
unfolding nodes_within
none_within t = refl

pub none_at : (room : ℕ) (t : Term) → room ≡ 0 → nodes_within room t ≡ 0
none_at room t e = ap (λ k. nodes_within k t) e ∙ none_within t

next_within : (d : ℕ) (t : Term) → nodes_within (suc d) t ≡ sum_below (nodes_within d) t + 1
unfolding nodes_within
next_within d t = refl

pub more_within : (room d : ℕ) (t : Term) → room ≡ suc d → nodes_within room t ≡ sum_below (nodes_within d) t + 1
more_within room d t e = ap (λ k. nodes_within k t) e ∙ next_within d t

-- the depth at which a term is cut

pub deepest_end : (d : ℕ) (t : Term) → deepest_from 0 d t ≡ d
unfolding deepest_from
deepest_end d t = refl

deepest_if : (n d : ℕ) (t : Term) (b : Bool) → nat_le (nodes_within (d + 1) t) 200 ≡ b → deepest_from (suc n) d t ≡ (if b then deepest_from n (d + 1) t else d)
unfolding deepest_from
deepest_if n d t b e = ap (λ b. if b then deepest_from n (d + 1) t else d) e

pub deepest_more : (n d : ℕ) (t : Term) → nodes_within (d + 1) t ≤ 200 → deepest_from (suc n) d t ≡ deepest_from n (d + 1) t
deepest_more n d t h = deepest_if n d t true (le-leb (nodes_within (d + 1) t) 200 h)

pub deepest_stops : (n d : ℕ) (t : Term) → 200 < nodes_within (d + 1) t → deepest_from (suc n) d t ≡ d
deepest_stops n d t h = deepest_if n d t false (lt-leb (nodes_within (d + 1) t) 200 h)
