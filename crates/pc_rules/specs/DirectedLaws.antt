-- Sanity laws of the directed rules, as statements.
use Rattle.std.specs.Prelude.{ℕ, ◌+◌, ◌≡◌, ◌↔◌, Bool, true, List, Some}
use Rattle.universe_levels.specs.declared.constraint.Constraint.{Constraint}
use Rattle.universe_levels.specs.Consistency.{IsConsistent}
use Rattle.pc_terms.specs.Syntax.{Term, Terms, shift}
use Rattle.calculus_rules.specs.declared.declaration.Block.{Block}
use Rattle.pc_rules.specs.declared.meter.Account.{Account}
use Rattle.calculus_rules.specs.Environment.{Env}
use Rattle.calculus_rules.specs.Context.{Context, Values}
use Rattle.calculus_rules.specs.Step.{Step}
use Rattle.calculus_rules.specs.WeakHead.{WeakStep, WeakSteps}
use Rattle.calculus_rules.specs.Accepted.{IsAccepted}
use Rattle.calculus_rules.specs.Evaluation.{Evaluates}
use Rattle.calculus_rules.specs.FirstOrder.{Shape, IsFirstOrder}
use Rattle.calculus_rules.specs.Same.{same}
use Rattle.pc_rules.specs.DirectedRun.{Run, End, Done, Refused, NoUnit, Nested, Leaves}
use Rattle.pc_rules.specs.DirectedWeakHead.{weak_next, whnf}
use Rattle.pc_rules.specs.DirectedComparison.{Test, compare}
use Rattle.pc_rules.specs.DirectedGuard.{fix_guard}
use Rattle.pc_rules.specs.DirectedTyping.{infer}
use Rattle.pc_rules.specs.DirectedDeclarations.{block_rule, IsCycle}
use Rattle.pc_rules.specs.DirectedEvaluation.{Value, evaluation}
use Rattle.pc_rules.specs.DirectedFirstOrder.{Found, without, search_within}

-- k units more
abbrev pub more : ℕ → Account → Account
more k u = record u { left = u.left + k }

-- with k units more an end is the same, with k units more left, unless no unit was left
abbrev pub Stays : {A : Type 0} → ℕ → End A → End A → Type 0
Stays k (Done a v) e = e ≡ Done a (more k v)
Stays k (Refused b v) e = e ≡ Refused b (more k v)
Stays k NoUnit e = Unit {0}
Stays k Nested e = e ≡ Nested

-- a rule never goes back on units, and more units change no result but that no unit was left
pub record IsSteady {A : Type 0} (f : Account → Run A) : Type 0 where
  pub falls : (u : Account) → Leaves (f u).end u.left
  pub stays : (k : ℕ) (u : Account) → Stays k (f u).end (f (more k u)).end

-- the test of sameness is true exactly where two terms are one tree
abbrev pub SameIsOneTree : Type 0
SameIsOneTree = (t u : Term) → (same t u ≡ true) ↔ (t ≡ u)

-- a directed weak-head step is a weak-head step of reduction
abbrev pub DirectedStepsAreSteps : Type 0
DirectedStepsAreSteps = (E : Env) (V : Values) (t w : Term) → weak_next E V t ≡ Some w → Step E V t w

abbrev pub DirectedStepsAreWeakSteps : Type 0
DirectedStepsAreWeakSteps = (E : Env) (V : Values) (t w : Term) → weak_next E V t ≡ Some w → WeakStep E V t w

-- what the directed rules end with as a weak-head normal form is reached by weak-head steps
abbrev pub DirectedWhnfIsReached : Type 0
DirectedWhnfIsReached = (E : Env) (V : Values) (t w : Term) (u v : Account) → (whnf E V t u).end ≡ Done w v → WeakSteps E V t w

abbrev pub WhnfIsSteady : Type 0
WhnfIsSteady = (E : Env) (V : Values) (t : Term) → IsSteady (whnf E V t)

abbrev pub ComparisonIsSteady : Type 0
ComparisonIsSteady = (E : Env) (q : Test) (n : ℕ) (c : Context) (equal : Bool) (a b : Term) → IsSteady (compare E q n c equal a b)

abbrev pub GuardIsSteady : Type 0
GuardIsSteady = (E : Env) (V : Values) (rargs : List ℕ) (bodies : Terms) → IsSteady (fix_guard E V rargs bodies)

abbrev pub InferenceIsSteady : Type 0
InferenceIsSteady = (E : Env) (q : Test) (n : ℕ) (c : Context) (t : Term) → IsSteady (infer E q n c t)

abbrev pub BlocksAreSteady : Type 0
BlocksAreSteady = (E : Env) (q : Test) (n : ℕ) (B : Block) → IsSteady (block_rule E q n B)

abbrev pub EvaluationIsSteady : Type 0
EvaluationIsSteady = (E : Env) (t : Term) → IsSteady (evaluation E t)

abbrev pub SearchIsSteady : Type 0
SearchIsSteady = (E : Env) (limit : ℕ) (T : Term) → IsSteady (search_within E limit T)

-- what the directed evaluation ends with is the term's value, and one unit is taken for each node
abbrev pub DirectedValuesAreValues : Type 0
DirectedValuesAreValues =
    (E : Env) (t v : Term) (u w : Account) → (evaluation E t u).end ≡ Done (Value v) w → (n : ℕ) × Evaluates E t v n × (u ≡ more n w)

-- over an accepted environment it ends with the value, where there is a unit for each node
abbrev pub ValuesAreDirectedValues : Type 0
ValuesAreDirectedValues =
    (E : Env) → IsAccepted E → (t v : Term) (n : ℕ) → Evaluates E t v n → (w : Account) → (evaluation E t (more n w)).end ≡ Done (Value v) w

-- what a search finds is a first-order set of its type
abbrev pub FoundIsFirstOrder : Type 0
FoundIsFirstOrder =
    (E : Env) (limit : ℕ) (T : Term) (S : List Shape) (u w : Account) → (search_within E limit T u).end ≡ Done (Found S) w → IsFirstOrder E T S

-- an argument type is A without the n arguments before it exactly where it is A lifted over them
abbrev pub WithoutIsLifted : Type 0
WithoutIsLifted = (n : ℕ) (A B : Term) → (without n B ≡ Some A) ↔ (B ≡ shift n 0 A)

-- where there is a cycle, the constraints have no valuation: so there is none exactly where they have one
abbrev pub CyclesHaveNoValuation : Type 0
CyclesHaveNoValuation = (levels : ℕ) (cs : List Constraint) (places : List ℕ) → IsCycle levels cs (Some places) → IsConsistent levels cs → ⊥
