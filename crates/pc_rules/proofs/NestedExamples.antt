-- Nested positivity and the guard through nesting on small environments, by computation.
use Rattle.std.proofs.Common.{◌≡◌, ℕ, Bool, true, false, List, [], ◌∷◌, refl}
use Rattle.universe_levels.specs.declared.sort.Sort.{Sort}
use Rattle.universe_levels.specs.declared.sort.Sort.TheVariants.{Of}
use Rattle.pc_terms.specs.declared.leaf.Name.{Name}
use Rattle.pc_terms.specs.declared.leaf.FamilyId.{FamilyId}
use Rattle.pc_terms.specs.Syntax.{Term, Terms, Done, Next, Rel, SortT, Prod, Lambda, App, Const, Ind, Construct, Case, Fix}
use Rattle.calculus_rules.specs.declared.declaration.Constructor.{Constructor}
use Rattle.calculus_rules.specs.declared.declaration.Block.{Block}
use Rattle.calculus_rules.specs.declared.declaration.Kept.TheVariants.{Block as Whole}
use Rattle.pc_rules.specs.declared.meter.Account.{Account}
use Rattle.pc_rules.specs.declared.broken.Broken.TheVariants.{NotGuarded}
use Rattle.calculus_rules.specs.Environment.{Env}
use Rattle.pc_rules.specs.DirectedRun as run
use Rattle.pc_rules.specs.DirectedRun.{ticking, bind, run_all}
use Rattle.pc_rules.specs.DirectedWeakHead.{steps}
use Rattle.pc_rules.specs.DirectedPositivity.{nestable, is_positive}
use Rattle.pc_rules.specs.DirectedGuard.{find, body_guard, fix_guard}

abbrev name : ℕ → Name
name n = record { 0 = n }

abbrev family : ℕ → FamilyId
family n = record { block = name n; family = 0 }

abbrev set : Sort
set = Of (record { level = record { 0 = 0 }; add = 0 } ∷ [])

abbrev units : ℕ → Account
units n = record { left = n; uses = 0 ∷ 0 ∷ 0 ∷ 0 ∷ 0 ∷ 0 ∷ 0 ∷ 0 ∷ 0 ∷ 0 ∷ 0 ∷ 0 ∷ [] }

abbrev constructor : ℕ → List Term → List Term → Constructor
constructor n As rs = record { name = name n; args = As; arg_sorts = []; result = rs }

abbrev block : ℕ → List Term → List Term → List Constructor → Block
block n Ps Is Cs = record { name = name n; params = Ps; families = record { name = name n; sort = set; indices = Is; ctors = Cs } ∷ [] }

-- nat is 0, list 1, pairs 2, functions to nat 3, functions from nat 4, a family that nests itself 5, dependent pairs 6, vectors 7,
-- equality 8, a family with its parameters swapped 9; the block that is declared is 10, rose trees 11

abbrev Nat : Term
Nat = Ind (family 0)

abbrev ListOf : Term → Term
ListOf A = App (Ind (family 1)) A

abbrev PairOf : Term → Term → Term
PairOf A B = App (App (Ind (family 2)) A) B

abbrev D : Term
D = Ind (family 10)

abbrev E : Env
E = record {
  levels = 0;
  constraints = [];
  declarations =
      Whole (block 11 [] [] (constructor 40 (ListOf (Ind (family 11)) ∷ []) [] ∷ []))
      ∷ Whole (block 9 (SortT set ∷ SortT set ∷ []) [] (constructor 38 (App (App (Ind (family 9)) (Rel 0)) (Rel 1) ∷ []) [] ∷ []))
      ∷ Whole (block 8 (SortT set ∷ Rel 0 ∷ []) (Rel 1 ∷ []) (constructor 37 [] (Rel 0 ∷ []) ∷ []))
      ∷ Whole (block 7 (SortT set ∷ []) (Nat ∷ [])
      (constructor 35 [] (Construct (family 0) 0 ∷ []) ∷ constructor 36 (Nat ∷ Rel 1 ∷ App (App (Ind (family 7)) (Rel 2)) (Rel 1) ∷ []) (App (Construct (family 0) 1) (Rel 2) ∷ []) ∷ []))
      ∷ Whole (block 6 (SortT set ∷ Prod (Rel 0) (SortT set) ∷ []) [] (constructor 34 (Rel 1 ∷ App (Rel 1) (Rel 0) ∷ []) [] ∷ []))
      ∷ Whole (block 5 (SortT set ∷ []) [] (constructor 33 (App (Ind (family 5)) (ListOf (Rel 0)) ∷ []) [] ∷ []))
      ∷ Whole (block 4 (SortT set ∷ []) [] (constructor 32 (Prod Nat (Rel 1) ∷ []) [] ∷ []))
      ∷ Whole (block 3 (SortT set ∷ []) [] (constructor 31 (Prod (Rel 0) Nat ∷ []) [] ∷ []))
      ∷ Whole (block 2 (SortT set ∷ SortT set ∷ []) [] (constructor 30 (Rel 1 ∷ Rel 1 ∷ []) [] ∷ []))
      ∷ Whole (block 1 (SortT set ∷ []) [] (constructor 22 [] [] ∷ constructor 23 (Rel 0 ∷ ListOf (Rel 1) ∷ []) [] ∷ []))
      ∷ Whole (block 0 [] [] (constructor 20 [] [] ∷ constructor 21 (Nat ∷ []) [] ∷ [])) ∷ [];
}

abbrev positive : Term → ℕ → run.End Bool
positive A n = (is_positive E (name 10) A (units n)).end

-- a list takes one unit for its parameter
through_list : positive (ListOf D) 1 ≡ run.Done true (units 0)
unfolding ticking bind nestable
through_list = refl

through_list_short : positive (ListOf D) 0 ≡ run.NoUnit
unfolding ticking bind nestable
through_list_short = refl

-- a list of lists takes two: the inner list is tested as a type of its own
through_two : positive (ListOf (ListOf D)) 2 ≡ run.Done true (units 0)
unfolding ticking bind nestable
through_two = refl

-- each side of a pair; a parameter that names nothing takes no unit
through_pair : positive (PairOf (ListOf D) (PairOf Nat D)) 4 ≡ run.Done true (units 0)
unfolding ticking bind nestable
through_pair = refl

-- functions from nat, and products, but not functions to nat
through_functions : positive (Prod Nat (App (Ind (family 4)) D)) 1 ≡ run.Done true (units 0)
unfolding ticking bind nestable
through_functions = refl

not_through_arguments : positive (App (Ind (family 3)) D) 1 ≡ run.Done false (units 0)
unfolding ticking bind nestable
not_through_arguments = refl

not_in_a_domain : positive (Prod (ListOf D) Nat) 0 ≡ run.Done false (units 0)
unfolding ticking bind nestable
not_in_a_domain = refl

-- a family whose own parameter is not the same everywhere, one whose parameters are swapped, one whose later parameter's type names the
-- earlier, one whose index type does
not_uniform : positive (App (Ind (family 5)) D) 1 ≡ run.Done false (units 0)
unfolding ticking bind nestable
not_uniform = refl

not_in_order : positive (App (App (Ind (family 9)) D) Nat) 1 ≡ run.Done false (units 0)
unfolding ticking bind nestable
not_in_order = refl

not_in_later_types : positive (App (App (Ind (family 6)) D) (Lambda D Nat)) 1 ≡ run.Done false (units 0)
unfolding ticking bind nestable
not_in_later_types = refl

not_applied : positive (App (App (Ind (family 6)) Nat) (Lambda Nat D)) 1 ≡ run.Done false (units 0)
unfolding ticking bind nestable
not_applied = refl

not_in_index_types : positive (App (App (App (Ind (family 8)) D) (Rel 0)) (Rel 1)) 1 ≡ run.Done false (units 0)
unfolding ticking bind nestable
not_in_index_types = refl

-- a family with an index, whose further argument names nothing
through_vectors : positive (App (App (Ind (family 7)) D) (Construct (family 0) 0)) 1 ≡ run.Done true (units 0)
unfolding ticking bind nestable
through_vectors = refl

-- too few parameters
not_partly : positive (App (Ind (family 2)) D) 1 ≡ run.Done false (units 1)
unfolding ticking bind nestable
not_partly = refl

-- the size of a rose tree, by a fixpoint over its list inside a fixpoint over the tree; the inner call is on variable k
abbrev RS : Term
RS = Ind (family 11)

abbrev go : ℕ → Term
go k = Fix 0 (0 ∷ []) (Next 0 (Prod (ListOf RS) Nat) Done) (Next 1 (Lambda (ListOf RS) (Case (family 1) (Next 0 RS Done) 1 Nat (Rel 0)
    (Next 0 (Construct (family 0) 0) (Next 2 (App (App (Const (name 50)) (App (Rel 6) (Rel k))) (App (Rel 3) (Rel 0))) Done)))) Done)

abbrev size : ℕ → Terms
size k = Next 1 (Lambda RS (Case (family 11) Done 1 Nat (Rel 0) (Next 1 (App (Construct (family 0) 1) (App (go k) (Rel 0))) Done))) Done

-- an element of the list is smaller
guarded : (fix_guard E [] (0 ∷ []) (size 1) (units 1)).end ≡ run.Done tt (units 0)
unfolding ticking bind steps run_all find body_guard
guarded = refl

-- the tree itself is not
not_guarded : (fix_guard E [] (0 ∷ []) (size 5) (units 1)).end ≡ run.Refused (NotGuarded (Rel 5)) (units 0)
unfolding ticking bind steps run_all find body_guard
not_guarded = refl

-- the fixpoint over the list has a list as its recursive argument: in it a list's element is not smaller, but its tail is
list_alone : (fix_guard E [] (0 ∷ []) (Next 1 (Lambda (ListOf RS) (Case (family 1) (Next 0 RS Done) 1 Nat (Rel 0)
    (Next 0 (Construct (family 0) 0) (Next 2 (App (Rel 3) (Rel 0)) Done)))) Done) (units 1)).end ≡ run.Done tt (units 0)
unfolding ticking bind steps run_all find body_guard
list_alone = refl

list_element : (fix_guard E [] (0 ∷ []) (Next 1 (Lambda (ListOf RS) (Case (family 1) (Next 0 RS Done) 1 Nat (Rel 0)
    (Next 0 (Construct (family 0) 0) (Next 2 (App (Rel 3) (Rel 1)) Done)))) Done) (units 1)).end ≡ run.Refused (NotGuarded (Rel 1)) (units 0)
unfolding ticking bind steps run_all find body_guard
list_element = refl
