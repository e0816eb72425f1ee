-- The test of sameness, decided.
use Rattle.std.proofs.Common.{◌≡◌, ℕ, Bool, true, false, ◌&&◌, IsTrue, ◌↔◌, List, refl, sym, ap, ◌∙◌, Option, Some, None}
use Rattle.trees.specs.Substitution.{walk}
use Rattle.pc_terms.specs.Syntax.{Term, Rel}
use Rattle.pc_terms.specs.Syntax as s
use Rattle.pc_terms.specs.Lists.{walk_match}
use Rattle.pc_terms.specs.View.{tree_of}
use Rattle.pc_terms.specs.declared.term.Match.{Match}
use Rattle.pc_terms.specs.declared.term.Node.{Node}
use Rattle.pc_terms.specs.declared.term.Node.TheVariants.{Case}
use Rattle.pc_terms.proofs.NodeTrees.{tree_of-inj}
use Rattle.pc_terms.specs.Counted.{number_of}
use Rattle.pc_terms.proofs.Numbered.{number_of-inj}
use Rattle.calculus_rules.specs.Same.{same}
use Rattle.pc_rules.proofs.SameTrees.{same_yes, same_no, same_is, same_itself, not_true}
use Rattle.reduction.specs.Frames.{with_scrutinee}
use Rattle.reduce_machine.specs.Memos.{IsMemo}
use Rattle.reduce_machine.specs.Reads.{stands_under}
use Rattle.lazy_conversion.specs.Lifted.{lifted_under}
use Rattle.lazy_conversion.specs.Joined.{AreOne, MayBeOne}
use Rattle.lazy_conversion.proofs.Lifting.{lifted_zero, lifted_nothing}
use Rattle.lazy_conversion.proofs.Noding.{match_tree}

pub decides : (a b : Term) (r : Bool) → (IsTrue r ↔ (a ≡ b)) → r ≡ same a b
decides a b true h = sym (same_yes a b true h refl)
decides a b false h = sym (same_no a b false h refl)

-- one test for another
pub same_for : (a b c d : Term) → (a ≡ b → c ≡ d) → (c ≡ d → a ≡ b) → same a b ≡ same c d
same_for a b c d f g = decides c d (same a b) (λ t. f (same_is a b t), λ e. let p : a ≡ b = g e in rw p (same_itself b))

-- two parts, by what they are with nothing more above them
pub parts_same : (xs ys : List Term) (k l : ℕ) (t u : Term) (r : Bool) → (IsTrue r ↔ (walk (lifted_under 0 xs) k t ≡ walk (lifted_under 0 ys) l u)) →
    r ≡ same (walk (stands_under xs) k t) (walk (stands_under ys) l u)
parts_same xs ys k l t u r h =
    let left = lifted_nothing xs k t in
    let right = lifted_nothing ys l u in
    decides (walk (stands_under xs) k t) (walk (stands_under ys) l u) r (λ y. sym left ∙ h.0 y ∙ right, λ e. h.1 (left ∙ e ∙ sym right))

-- places that are for one term
pub one_term : (m n : Option ℕ) (t u : Term) → AreOne m n → IsMemo m t → IsMemo n u → t ≡ u
one_term (Some m) (Some n) t u e p q = number_of-inj t u (sym p ∙ e ∙ q)
one_term (Some m) None t u e p q = absurd e
one_term None n t u e p q = absurd e

pub may_be_one : (m n : Option ℕ) (t u : Term) → t ≡ u → IsMemo m t → IsMemo n u → MayBeOne m n
may_be_one (Some m) (Some n) t u e p q = p ∙ ap number_of e ∙ sym q
may_be_one (Some m) None t u e p q = tt
may_be_one None n t u e p q = tt

-- the scrutinee of a match, and the match of a node
abbrev scrutinee_of : Term → Term
scrutinee_of (s.Case f ps n ret t bs) = t
scrutinee_of t = t

abbrev match_in : Node → Match → Match
match_in (Case m) d = m
match_in n d = d

-- a match around t
abbrev pub around : Match → Term → Term
around m t = tree_of (Case (record m { scrut = t }))

matches_same : (m n : Match) (t u : Term) (r : Bool) → (IsTrue r ↔ (record m { scrut = Rel 0 } ≡ record n { scrut = Rel 0 })) →
    same (around m t) (around n u) ≡ (r && same t u)
matches_same m n t u true h =
    let e : record m { scrut = Rel 0 } ≡ record n { scrut = Rel 0 } = h.0 refl in
    same_for (around m t) (around n u) t u (ap scrutinee_of) (λ p i. tree_of (Case (record (e i) { scrut = p i })))
matches_same m n t u false h = not_true (same (around m t) (around n u)) (λ q. no (h.1 (parts (tree_of-inj (Case (record m { scrut = t })) (Case (record n { scrut = u })) (same_is (around m t) (around n u) q)))))
  where
    parts : Case (record m { scrut = t }) ≡ Case (record n { scrut = u }) → record m { scrut = Rel 0 } ≡ record n { scrut = Rel 0 }
    parts e = ap (λ (x : Node). record (match_in x m) { scrut = Rel 0 }) e

    no : IsTrue false → ⊥
    no e = cc

pub walked_around : (f : ℕ → ℕ → Term) (m : Match) (t : Term) → around (walk_match f 0 m) t ≡ with_scrutinee (walk f 0 (tree_of (Case m))) t
walked_around f m t = ap (λ (c : Term). with_scrutinee c t) (match_tree f 0 m)

-- matches under bindings, around any scrutinees
pub around_same : (xs ys : List Term) (x y : Match) (r : Bool) (t u : Term) →
    (IsTrue r ↔ (record (walk_match (lifted_under 0 xs) 0 x) { scrut = Rel 0 } ≡ record (walk_match (lifted_under 0 ys) 0 y) { scrut = Rel 0 })) →
    same (with_scrutinee (walk (stands_under xs) 0 (tree_of (Case x))) t) (with_scrutinee (walk (stands_under ys) 0 (tree_of (Case y))) u) ≡ (r && same t u)
around_same xs ys x y r t u h =
    let left : with_scrutinee (walk (stands_under xs) 0 (tree_of (Case x))) t ≡ around (walk_match (lifted_under 0 xs) 0 x) t =
    ap (λ (f : ℕ → ℕ → Term). with_scrutinee (walk f 0 (tree_of (Case x))) t) (sym (lifted_zero xs)) ∙ sym (walked_around (lifted_under 0 xs) x t) in
    let right : with_scrutinee (walk (stands_under ys) 0 (tree_of (Case y))) u ≡ around (walk_match (lifted_under 0 ys) 0 y) u =
    ap (λ (f : ℕ → ℕ → Term). with_scrutinee (walk f 0 (tree_of (Case y))) u) (sym (lifted_zero ys)) ∙ sym (walked_around (lifted_under 0 ys) y u) in
    (λ i. same (left i) (right i)) ∙ matches_same (walk_match (lifted_under 0 xs) 0 x) (walk_match (lifted_under 0 ys) 0 y) t u r h
