-- The law of comparison, as a statement.
use Rattle.std.specs.Prelude.{◌≡◌, ℕ, Bool, true, false}
use Rattle.pc_terms.specs.Syntax.{Term}
use Rattle.pc_rules.specs.declared.meter.Account.{Account}
use Rattle.calculus_rules.specs.Environment.{Env}
use Rattle.calculus_rules.specs.Context.{Context, Values, values}
use Rattle.calculus_rules.specs.Conversion.{Equal, Below}
use Rattle.calculus_rules.specs.WeakHead.{WeakSteps}
use Rattle.pc_rules.specs.DirectedRun.{Done}
use Rattle.pc_rules.specs.DirectedComparison.{Test, IsTest, compare}
use Rattle.pc_rules.specs.WellCounted.{IsCounted, HasCountedDeclarations, AreCountedValues}

-- equal, or below
abbrev pub Compares : Env → Bool → Values → Term → Term → Type 0
Compares E true V a b = Equal E V a b
Compares E false V a b = Below E V a b

-- what the directed rules find to be equal is equal by conversion, and what they find to be below is below
abbrev pub ComparisonIsSound : Type 0
ComparisonIsSound = (E : Env) (q : Test) → IsTest E.levels E.constraints q → HasCountedDeclarations E →
    (n : ℕ) (c : Context) (equal : Bool) (a b : Term) (u v : Account) → AreCountedValues E (values c) → IsCounted E a → IsCounted E b →
    (compare E q n c equal a b u).end ≡ Done tt v → Compares E equal (values c) a b

-- weak-head steps lead from well-counted terms to well-counted terms
abbrev pub StepsKeepCounts : Type 0
StepsKeepCounts = (E : Env) → HasCountedDeclarations E → (V : Values) (t u : Term) → AreCountedValues E V → IsCounted E t → WeakSteps E V t u → IsCounted E u
