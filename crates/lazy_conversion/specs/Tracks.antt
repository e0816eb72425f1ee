-- What a comparison of terms that nobody has read answers. Such a term may be beyond the limits of terms in memory: then the rules passed a limit when they made it.
use Rattle.std.specs.Prelude.{◌≡◌, ◌⊎◌, Bool, IsTrue, List, Result}
use Rattle.trees.specs.Tree.{terms_of}
use Rattle.trees.specs.Measures.{IsBeyond, AreBeyond}
use Rattle.pc_terms.specs.Syntax.{Term}
use Rattle.calculus_rules.specs.Context.{Context, Values, values}
use Rattle.pc_rules.specs.DirectedRun.{Act, Leaves}
use Rattle.pc_rules.specs.Follows.{IsAfter, Answers}
use Rattle.pc_rules.specs.declared.meter.Meter.{Meter}
use Rattle.pc_rules.specs.declared.stop.Halt.{Halt}
use Rattle.reduce_machine.specs.Passed.{having_passed}

-- in every context with these values the answer is that of d, before which a limit was passed where P holds
pub record Tracks (V : Values) (P : Type 0) (d : Context → Act) (r : Result (Unit {0}) Halt) (old new : Meter) : Type 0 where
  pub after : IsAfter old new
  pub each : (c : Context) (b : Bool) → values c ≡ V → (P → IsTrue b) → Answers (having_passed b (d c old.account)) r new.account
  -- at least as many units are left as at the end of the run, where that tells units
  pub leaves : (c : Context) → values c ≡ V → Leaves (d c old.account).end new.account.left

abbrev pub EitherBeyond : Term → Term → Type 0
EitherBeyond t u = IsBeyond t ⊎ IsBeyond u

abbrev pub AnyBeyond : List Term → List Term → Type 0
AnyBeyond ts us = AreBeyond (terms_of ts) ⊎ AreBeyond (terms_of us)
