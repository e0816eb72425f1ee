-- A variable that is not below the loose bound of a term does not stand in it.
use Rattle.std.proofs.Common.{◌≡◌, ℕ, ◌≤◌, ◌||◌, Bool, false, List, refl, ◌∙◌, ap, arith}
use Rattle.std.proofs.lemmas.Grind.{common_steps}
use Rattle.trees.specs.Measures.{loose, loose_places, loose_trees}
use Rattle.trees.specs.Substitution.{deeper}
use Rattle.trees.proofs.Closed.{deeper_is}
use Rattle.pc_terms.specs.Syntax.{Slot, Term, Terms, Children, End, Child, Group, Done, Next, Rel, Node}
use Rattle.calculus_rules.specs.Naming.{has_variable, has_variable_children, has_variable_terms}

pub neither : (a b : Bool) → a ≡ false → b ≡ false → (a || b) ≡ false
neither a b p q = ap (λ x. x || b) p ∙ q

mutual
  pub has_none : (i : ℕ) (t : Term) → loose t ≤ i → has_variable i t ≡ false
  has_none i (Rel n) h = grind (arith, common_steps)
  has_none i (Node l ts) h = children_have_none i ts h

  children_have_none : (i : ℕ) {ss : List Slot} (ts : Children ss) → loose_places ts ≤ i → has_variable_children i ts ≡ false
  children_have_none i End h = refl
  children_have_none i (Child {n} t ts) h =
      neither (has_variable (deeper n i) t) (has_variable_children i ts) (has_none (deeper n i) t (omega (arith, deeper_is n i))) (children_have_none i ts (omega arith))
  children_have_none i (Group us ts) h =
      neither (has_variable_terms i us) (has_variable_children i ts) (terms_have_none i us (omega arith)) (children_have_none i ts (omega arith))

  terms_have_none : (i : ℕ) (ts : Terms) → loose_trees ts ≤ i → has_variable_terms i ts ≡ false
  terms_have_none i Done h = refl
  terms_have_none i (Next n t ts) h =
      neither (has_variable (deeper n i) t) (has_variable_terms i ts) (has_none (deeper n i) t (omega (arith, deeper_is n i))) (terms_have_none i ts (omega arith))

pub ruleset variable_laws = (has_none, deeper_is)
