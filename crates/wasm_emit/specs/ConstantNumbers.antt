-- A table of the numbers of a program's constants by their names.
use Rattle.std.specs.Prelude.{◌≡◌, ℕ, List, length, nat_eq}
use Rattle.std.specs.HashMap.{HashMap, get}
use Rattle.std.specs.Option.{unwrap_or}
use Rattle.closure_lift.specs.LiftedProgram.{place_in}
use Rattle.closure_lift.specs.declared.program.LiftedConstant.{LiftedConstant}

-- each name has the place of its constant; a name without a constant has none, and its place is the number of constants
module _ {S : Type 0} where
  pub record AreNumbered (numbers : HashMap ℕ ℕ S) (cs : List LiftedConstant) : Type 0 where
    pub at : (x : ℕ) → unwrap_or (get nat_eq numbers x) (length cs) ≡ place_in cs x
