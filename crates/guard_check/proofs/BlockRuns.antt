-- How answers follow the search for the recursive block of a body.
use Rattle.std.proofs.Common.{◌≡◌, sym, refl, subst, ℕ, zero, suc, Option, Some, None, List, [], ◌∷◌, length, slice_get, get_or, Result, Ok, Err, arith}
use Rattle.pc_terms.specs.declared.leaf.Name.{Name}
use Rattle.pc_terms.specs.declared.term.Node.{Node}
use Rattle.pc_terms.specs.declared.term.Node.TheVariants as node
use Rattle.pc_terms.specs.declared.term.Def.{Def}
use Rattle.pc_terms.specs.Lists.{rargs_of}
use Rattle.pc_terms.specs.View.{tree_of}
use Rattle.pc_terms.specs.Syntax.{Term, Lambda, head}
use Rattle.pc_rules.specs.declared.meter.Meter.{Meter}
use Rattle.pc_rules.specs.declared.stop.Halt.{Halt}
use Rattle.calculus_rules.specs.Environment.{Env}
use Rattle.calculus_rules.specs.Context.{Values}
use Rattle.calculus_rules.specs.Guardedness.{Mark, Argument, Other, Marks, head_block}
use Rattle.pc_rules.specs.DirectedRun.{done}
use Rattle.pc_rules.specs.DirectedWeakHead.{whnf}
use Rattle.pc_rules.specs.DirectedGuard.{recursive_block, walk_under, body_guard, normal_found, passed_argument, argument_found}
use Rattle.pc_rules.specs.Follows.{Follows}
use Rattle.pc_rules.proofs.Following.{follows_bind, follows_err, follows_done}
use Rattle.pc_rules.proofs.Leaving.{leaving}

module _ (E : Env) (V : Values) where
  other_node : (n : Node) (r : ℕ) (m : Meter) → ((A b : Term) → n ≡ node.Lambda A b → ⊥) → Follows (recursive_block E V r (tree_of n) m.account) (Ok None) m m
  other_node (node.Lambda A b) r m h = absurd (h A b refl)
  other_node n zero m h = follows_done None m
  other_node n (suc r) m h = follows_done None m

  pub block_other : (n : Node) (t : Term) (r : ℕ) (m : Meter) → tree_of n ≡ t → ((A b : Term) → n ≡ node.Lambda A b → ⊥) →
      Follows (recursive_block E V r t m.account) (Ok None) m m
  block_other n t r m e h = subst (λ t. Follows (recursive_block E V r t m.account) (Ok None) m m) e (other_node n r m h)

  pub block_stops : (A b : Term) (r : ℕ) (h : Halt) (m0 m1 : Meter) → r ≡ 0 → Follows (whnf E V A m0.account) (Err h) m0 m1 →
      Follows (recursive_block E V r (Lambda A b) m0.account) (Err h) m0 m1
  block_stops A b zero h m0 m1 e f = follows_err (whnf E V A m0.account) (λ W v. done (head_block (head W)) v) h m0 m1 f (search leaving)
  block_stops A b (suc r) h m0 m1 e f = absurd (omega arith)

  pub block_here : (A b W : Term) (r : ℕ) (m0 m1 : Meter) → r ≡ 0 → Follows (whnf E V A m0.account) (Ok W) m0 m1 →
      Follows (recursive_block E V r (Lambda A b) m0.account) (Ok (head_block (head W))) m0 m1
  block_here A b W zero m0 m1 e f =
      follows_bind (whnf E V A m0.account) (λ W v. done (head_block (head W)) v) W (Ok (head_block (head W))) m0 m1 m1 f (follows_done (head_block (head W)) m1)
  block_here A b W (suc r) m0 m1 e f = absurd (omega arith)

  pub block_later : (W : Values) (A b : Term) (k j : ℕ) (r : Result (Option Name) Halt) (m0 m1 : Meter) → k ≡ suc j → W ≡ None ∷ V →
      Follows (recursive_block E W j b m0.account) r m0 m1 → Follows (recursive_block E V k (Lambda A b) m0.account) r m0 m1
  block_later W A b k j r m0 m1 e q f =
      subst (λ k. Follows (recursive_block E V k (Lambda A b) m0.account) r m0 m1) (sym e) (subst (λ W. Follows (recursive_block E W j b m0.account) r m0 m1) q f)

-- a body: its recursive block, and then the walk
module _ (E : Env) (V : Values) (M : Marks) (rarg : ℕ) (t : Term) where
  pub body_stops : (h : Halt) (m0 m1 : Meter) → Follows (recursive_block E V rarg t m0.account) (Err h) m0 m1 → Follows (body_guard E V M rarg t m0.account) (Err h) m0 m1
  unfolding body_guard
  body_stops h m0 m1 f = follows_err (recursive_block E V rarg t m0.account) (λ r v. walk_under E r V M Argument rarg t v) h m0 m1 f (search leaving)

  pub body_goes : (b : Option Name) (r : Result (Unit {0}) Halt) (m0 m1 m2 : Meter) → Follows (recursive_block E V rarg t m0.account) (Ok b) m0 m1 →
      Follows (walk_under E b V M Argument rarg t m1.account) r m1 m2 → Follows (body_guard E V M rarg t m0.account) r m0 m2
  unfolding body_guard
  body_goes b r m0 m1 m2 f g = follows_bind (recursive_block E V rarg t m0.account) (λ r v. walk_under E r V M Argument rarg t v) b r m0 m1 m2 f g

-- the recursive argument of a fixpoint of one definition

pub none_passed : (ds : List Def) (xs : List Term) → (length ds ≡ 1 → ⊥) → passed_argument (rargs_of ds) xs ≡ None
none_passed [] xs n = refl
none_passed (d ∷ []) xs n = absurd (n refl)
none_passed (d ∷ e ∷ ds) xs n = refl

pub one_passed : (ds : List Def) (o : Def) (xs : List Term) (a : Term) → length ds ≡ 1 → slice_get xs (get_or ds 0 o).rarg ≡ Some a → passed_argument (rargs_of ds) xs ≡ Some a
one_passed [] o xs a l h = absurd (omega arith)
one_passed (x ∷ []) o xs a l h = h
one_passed (x ∷ y ∷ ds) o xs a l h = absurd (omega arith)

module _ (E : Env) (block : Option Name) (V : Values) (M : Marks) (o : Option Term) where
  pub nothing_found : (m : Meter) → o ≡ None → Follows (argument_found E block V M o m.account) (Ok Other) m m
  nothing_found m e = subst (λ o. Follows (argument_found E block V M o m.account) (Ok Other) m m) (sym e) (follows_done Other m)

  pub found_stops : (a : Term) (h : Halt) (m0 m1 : Meter) → o ≡ Some a → Follows (normal_found E block V M a m0.account) (Err h) m0 m1 →
      Follows (argument_found E block V M o m0.account) (Err h) m0 m1
  found_stops a h m0 m1 e f =
      subst (λ o. Follows (argument_found E block V M o m0.account) (Err h) m0 m1) (sym e)
      (follows_err (normal_found E block V M a m0.account) (λ p v. done p.1 v) h m0 m1 f (search leaving))

  pub found_goes : (a : Term) (p : Term × Mark) (m0 m1 : Meter) → o ≡ Some a → Follows (normal_found E block V M a m0.account) (Ok p) m0 m1 →
      Follows (argument_found E block V M o m0.account) (Ok p.1) m0 m1
  found_goes a p m0 m1 e f =
      subst (λ o. Follows (argument_found E block V M o m0.account) (Ok p.1) m0 m1) (sym e)
      (follows_bind (normal_found E block V M a m0.account) (λ p v. done p.1 v) p (Ok p.1) m0 m1 m1 f (follows_done p.1 m1))
