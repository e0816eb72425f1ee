-- What the type of a function says of a call: a first-order set for each argument, and one for the answer. It is this project's own.
use Rattle.std.specs.Prelude.{◌≡◌, List, [], ◌∷◌}
use Rattle.pc_terms.specs.Syntax.{Term, Prod, shift}
use Rattle.calculus_rules.specs.Environment.{Env}
use Rattle.calculus_rules.specs.WeakHead.{WeakSteps}
use Rattle.calculus_rules.specs.FirstOrder.{Shape as Member, IsFirstOrder}

-- A closed type takes an argument where its weak-head normal form is a product whose codomain doesn't name the variable; the last type is the answer's.
pub data IsSignature (E : Env) : Term → List (List Member) → List Member → Type 0 where
  answers : {T : Term} {R : List Member} → IsFirstOrder E T R → IsSignature E T [] R
  takes : {T A B C : Term} {S R : List Member} {Ss : List (List Member)} → WeakSteps E [] T (Prod A B) → IsFirstOrder E A S → B ≡ shift 1 0 C →
      IsSignature E C Ss R → IsSignature E T (S ∷ Ss) R
