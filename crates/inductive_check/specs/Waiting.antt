-- Tests of positivity that wait, in a list of which the last comes first.
use Rattle.std.specs.Prelude.{ℕ, suc, ◌+◌, ◌-◌, ◌==◌, ◌&&◌, not, Bool, true, false, if◌then◌else◌, nat_lt, List, [], ◌∷◌, ◌++◌, length, Result}
use Rattle.pc_terms.specs.Syntax.{Term, Rel, App, args}
use Rattle.calculus_rules.specs.declared.declaration.Constructor.{Constructor}
use Rattle.calculus_rules.specs.declared.declaration.Family.{Family}
use Rattle.calculus_rules.specs.declared.declaration.Block.{Block}
use Rattle.calculus_rules.specs.declared.target.Target.{Target}
use Rattle.pc_rules.specs.declared.meter.Account.{Account}
use Rattle.pc_rules.specs.declared.meter.Meter.{Meter}
use Rattle.pc_rules.specs.declared.stop.Halt.{Halt}
use Rattle.calculus_rules.specs.Environment.{Env}
use Rattle.calculus_rules.specs.Naming.{names}
use Rattle.pc_rules.specs.DirectedRun.{Run, done}
use Rattle.pc_rules.specs.DirectedPositivity.{both, argument_good, good, nestable}
use Rattle.pc_rules.specs.Follows.{Follows}
use Rattle.inductive_check.specs.declared.waiting.Test.{Test}
use Rattle.inductive_check.specs.declared.waiting.Test.TheVariants.{Good, Fits}

-- a type is good for a target; an argument of a family of a block fits
pub data Waiting : Type 0 where
  type_waits : Target → ℕ → Term → Waiting
  argument_waits : Target → ℕ → Block → ℕ → Term → Waiting

abbrev pub waiting : Test → Waiting
waiting (Good g j A) = type_waits g j A.now
waiting (Fits g j B i a) = argument_waits g j B.now i a.now

-- the arguments of a term, the last first
abbrev pub arguments_waiting : Target → ℕ → Block → Term → List Waiting
arguments_waiting g j B (App f a) = argument_waits g j B (length (args f)) a ∷ arguments_waiting g j B f
arguments_waiting g j B t = []

-- the types of a telescope, of constructors and of families, the last first
abbrev pub types_waiting : Target → ℕ → List Term → List Waiting
types_waiting g j [] = []
types_waiting g j (A ∷ As) = types_waiting g (suc j) As ++ (type_waits g j A ∷ [])

abbrev pub constructors_waiting : Target → List Constructor → List Waiting
constructors_waiting g [] = []
constructors_waiting g (C ∷ Cs) = constructors_waiting g Cs ++ types_waiting g 0 C.args

abbrev pub families_waiting : Target → List Family → List Waiting
families_waiting g [] = []
families_waiting g (F ∷ Fs) = families_waiting g Fs ++ constructors_waiting g F.ctors

-- one test, with as much fuel as there are units
abbrev pub one_test : Env → Waiting → Account → Run Bool
one_test E (type_waits g j A) u = good E (nestable E u.left) g j A u
one_test E (argument_waits g j B i a) u = argument_good (nestable E u.left) g j B i a (good E (nestable E u.left) g j a) u

-- each of a list, the last first, and then the rest; what comes after a test that fails is not asked
abbrev pub each_then : Env → List Waiting → (Account → Run Bool) → Account → Run Bool
each_then E [] k = k
each_then E (x ∷ xs) k = each_then E xs (λ u. both (one_test E x u) k)

abbrev pub each_test : Env → List Waiting → Account → Run Bool
each_test E xs = each_then E xs (λ u. done true u)

-- in the place of the last of the tests others wait, or it fails: what answers for these answers for all
abbrev pub Goes : Env → List Waiting → Waiting → List Waiting → Meter → Meter → Bool → Type 0
Goes E before x after m0 m1 b = (r : Result Bool Halt) (n : Meter) → Follows (if b then each_test E after m1.account else done false m1.account) r m1 n →
    Follows (each_test E (before ++ (x ∷ [])) m0.account) r m0 n

-- argument i is the variable of parameter i of n, as it is seen under j variables more
abbrev pub is_parameter : ℕ → ℕ → ℕ → Term → Bool
is_parameter n j i (Rel v) = v == n - 1 - i + j
is_parameter n j i _ = false

-- the arguments of a term, of which there are m: those before n are the parameters, and the others name no target
abbrev pub own_from : Target → ℕ → ℕ → ℕ → Term → Bool
own_from g n j m (App f a) = (if nat_lt (m - 1) n then is_parameter n j (m - 1) a else not (names g j a)) && own_from g n j (m - 1) f
own_from g n j m _ = true
