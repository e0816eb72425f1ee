-- What a directed rule takes depends neither on the units that are left nor on the uses that are noted, and more room changes nothing, as statements.
use Rattle.std.specs.Prelude.{ℕ, ◌≤◌, Bool, List}
use Rattle.pc_terms.specs.Syntax.{Term, Terms}
use Rattle.calculus_rules.specs.Environment.{Env}
use Rattle.calculus_rules.specs.Context.{Context, Values}
use Rattle.pc_rules.specs.DirectedWeakHead.{whnf}
use Rattle.pc_rules.specs.DirectedComparison.{Test, compare}
use Rattle.pc_rules.specs.DirectedGuard.{fix_guard}
use Rattle.pc_rules.specs.DirectedTyping.{infer, sort_of, check}
use Rattle.run_costs.specs.Costs.{TakesAlike, IsMeasured}

abbrev pub WhnfTakesAlike : Type 0
WhnfTakesAlike = (E : Env) (V : Values) (t : Term) → TakesAlike (whnf E V t) (whnf E V t)

abbrev pub ComparisonTakesAlike : Type 0
ComparisonTakesAlike =
    (E : Env) (q : Test) (m n : ℕ) → m ≤ n → (c : Context) (equal : Bool) (a b : Term) → TakesAlike (compare E q m c equal a b) (compare E q n c equal a b)

abbrev pub GuardTakesAlike : Type 0
GuardTakesAlike = (E : Env) (V : Values) (rargs : List ℕ) (bodies : Terms) → TakesAlike (fix_guard E V rargs bodies) (fix_guard E V rargs bodies)

abbrev pub InferenceTakesAlike : Type 0
InferenceTakesAlike = (E : Env) (q : Test) (m n : ℕ) → m ≤ n → (c : Context) (t : Term) → TakesAlike (infer E q m c t) (infer E q n c t)

abbrev pub SortsTakeAlike : Type 0
SortsTakeAlike =
    (E : Env) (q : Test) (m n : ℕ) → m ≤ n → (c : Context) (A : Term) → TakesAlike (sort_of E (infer E q m) c A) (sort_of E (infer E q n) c A)

abbrev pub ChecksTakeAlike : Type 0
ChecksTakeAlike =
    (E : Env) (q : Test) (m n : ℕ) → m ≤ n → (c : Context) (t T : Term) →
    TakesAlike (check E (infer E q m) (compare E q m) c t T) (check E (infer E q n) (compare E q n) c t T)

abbrev pub InferenceIsMeasured : Type 0
InferenceIsMeasured = (E : Env) (q : Test) (m n : ℕ) → m ≤ n → (c : Context) (t : Term) → IsMeasured (infer E q m c t) (infer E q n c t)

abbrev pub SortsAreMeasured : Type 0
SortsAreMeasured =
    (E : Env) (q : Test) (m n : ℕ) → m ≤ n → (c : Context) (A : Term) → IsMeasured (sort_of E (infer E q m) c A) (sort_of E (infer E q n) c A)
