-- Evaluation of closed terms: weak and call by value, big step, with substitution, with the number of its nodes (PCUIC, POPL 2020,
-- section 4: weak call-by-value evaluation). One node is one rule.
use Rattle.std.specs.Prelude.{ℕ, suc, ◌+◌, ◌<◌, ◌≡◌, List, Some, length, slice_get}
use Rattle.universe_levels.specs.declared.sort.Sort.{Sort}
use Rattle.pc_terms.specs.declared.leaf.Name.{Name}
use Rattle.pc_terms.specs.declared.leaf.FamilyId.{FamilyId}
use Rattle.pc_terms.specs.Syntax.{Term, Terms, Rel, SortT, Prod, Lambda, LetIn, App, Const, Ind, Construct, Case, Fix, put, put_all, substitute, apply, term_at}
use Rattle.calculus_rules.specs.declared.declaration.Constructor.{Constructor}
use Rattle.calculus_rules.specs.Environment.{FamilyDecl, Env, KeepsConstant, KeepsFamily}
use Rattle.calculus_rules.specs.Instances.{unfolded}
use Rattle.calculus_rules.specs.Step.{IsConstructor}

-- the terms that evaluate to themselves
pub data IsValue : Term → Type 0 where
  sort_is : {s : Sort} → IsValue (SortT s)
  prod_is : {A B : Term} → IsValue (Prod A B)
  lambda_is : {A b : Term} → IsValue (Lambda A b)
  ind_is : {f : FamilyId} → IsValue (Ind f)
  construct_is : {f : FamilyId} {c : ℕ} → IsValue (Construct f c)
  fix_is : {i : ℕ} {rargs : List ℕ} {types bodies : Terms} → IsValue (Fix i rargs types bodies)

-- the values that one more argument extends: a family; a constructor with arguments missing; a fixpoint that then still has fewer than
-- rarg + 1 arguments
pub data TakesMore (E : Env) (g : Term) : Type 0 where
  family : (f : FamilyId) (xs : List Term) → g ≡ apply (Ind f) xs → TakesMore E g
  constructor : (f : FamilyId) (c : ℕ) (xs : List Term) {F : FamilyDecl} {C : Constructor} → KeepsFamily E f F → slice_get F.constructors c ≡ Some C →
      length xs < length F.parameters + length C.args → g ≡ apply (Construct f c) xs → TakesMore E g
  fixpoint : (i : ℕ) (rargs : List ℕ) (types bodies : Terms) (xs : List Term) {rarg : ℕ} → slice_get rargs i ≡ Some rarg →
      length xs < rarg → g ≡ apply (Fix i rargs types bodies) xs → TakesMore E g

-- the value g, a fixpoint with rarg arguments, unfolds with argument v: to its body with the fixpoints put in, applied to the same arguments
pub data Unfolds (g v : Term) : Term → Type 0 where
  unfolds : (i : ℕ) (rargs : List ℕ) (types bodies : Terms) (xs : List Term) {rarg : ℕ} {body : Term} → slice_get rargs i ≡ Some rarg →
      length xs ≡ rarg → term_at bodies i ≡ Some (length rargs, body) → g ≡ apply (Fix i rargs types bodies) xs →
      Unfolds g v (App (apply (unfolded rargs types bodies body) xs) v)

pub data Evaluates (E : Env) : Term → Term → ℕ → Type 0 where
  -- a value evaluates to itself
  value : {v : Term} → IsValue v → Evaluates E v v 1
  -- a constant evaluates as its body
  constant : {k : Name} {n : ℕ} {T b v : Term} → KeepsConstant E k T (Some b) → Evaluates E b v n → Evaluates E (Const k) v (suc n)
  -- a let evaluates its value, and then the body with it
  let_in : {b B t v w : Term} {n m : ℕ} → Evaluates E b v n → Evaluates E (substitute (put v) t) w m → Evaluates E (LetIn b B t) w (suc (n + m))
  -- an application evaluates the function, then the argument: a lambda's body then runs with the value put in;
  beta : {f a A b v w : Term} {n m k : ℕ} → Evaluates E f (Lambda A b) n → Evaluates E a v m → Evaluates E (substitute (put v) b) w k →
      Evaluates E (App f a) w (suc (n + m + k))
  -- a value that takes more is extended;
  extend : {f a g v : Term} {n m : ℕ} → Evaluates E f g n → Evaluates E a v m → TakesMore E g → Evaluates E (App f a) (App g v) (suc (n + m))
  -- and a fixpoint that now has rarg + 1 arguments unfolds
  unfold_fix : {f a g v u w : Term} {n m k : ℕ} → Evaluates E f g n → Evaluates E a v m → Unfolds g v u → Evaluates E u w k →
      Evaluates E (App f a) w (suc (n + m + k))
  -- a match evaluates its scrutinee to a constructor of its family with all arguments, and runs the branch
  enter : {f : FamilyId} {ps bs : Terms} {p c n m : ℕ} {ret s v body w : Term} {qs xs : List Term} → Evaluates E s v n → IsConstructor E f c v qs xs →
      term_at bs c ≡ Some (length xs, body) → Evaluates E (substitute (put_all xs Rel) body) w m →
      Evaluates E (Case f ps p ret s bs) w (suc (n + m))

-- a constructor with all its parameters and arguments
abbrev pub IsBuilt : Env → Term → Type 0
IsBuilt E v = (f : FamilyId) × (c : ℕ) × (qs : List Term) × (xs : List Term) × IsConstructor E f c v qs xs
