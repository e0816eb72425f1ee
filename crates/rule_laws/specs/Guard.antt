-- The law of the directed guard, as a statement.
use Rattle.std.specs.Prelude.{◌≡◌, ℕ, List}
use Rattle.pc_terms.specs.Syntax.{Terms, Fix}
use Rattle.pc_rules.specs.declared.meter.Account.{Account}
use Rattle.calculus_rules.specs.Environment.{Env}
use Rattle.calculus_rules.specs.Context.{Values}
use Rattle.calculus_rules.specs.Guardedness.{IsGuarded}
use Rattle.pc_rules.specs.FixConditions.{HaveLambdas}
use Rattle.pc_rules.specs.DirectedRun as run
use Rattle.pc_rules.specs.DirectedGuard.{fix_guard}
use Rattle.pc_rules.specs.WellCounted.{IsCounted, HasCountedDeclarations, AreCountedValues}

-- a fixpoint whose bodies begin with the lambdas that its recursive arguments ask for and that the directed guard lets pass is guarded
abbrev pub GuardIsSound : Type 0
GuardIsSound = (E : Env) → HasCountedDeclarations E → (V : Values) → AreCountedValues E V → (i : ℕ) (rargs : List ℕ) (types bodies : Terms) (u v : Account) →
    IsCounted E (Fix i rargs types bodies) → HaveLambdas rargs bodies → (fix_guard E V rargs bodies u).end ≡ run.Done tt v → IsGuarded E V rargs bodies
