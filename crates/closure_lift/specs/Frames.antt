-- What the variables of a lifted block hold, as it is kept, and where each word is.
use Rattle.std.specs.Prelude.{◌≡◌, ℕ, List, [], ◌∷◌, length, Option, Some, None, nat_eq, if◌then◌else◌}
use Rattle.std.specs.HashMap.{HashMap, get}
use Rattle.closure_lift.specs.Lift.{LiftSlot, Holds, Made}
use Rattle.closure_lift.specs.declared.frame.Held.{Held}
use Rattle.closure_lift.specs.declared.frame.Held.TheVariants as held

abbrev pub slot_of : Held → LiftSlot
slot_of (held.Word x before) = Holds x
slot_of (held.Closure i) = Made i

abbrev pub slots_of : List Held → List LiftSlot
slots_of [] = []
slots_of (h ∷ hs) = slot_of h ∷ slots_of hs

-- the place of the innermost variable that holds the word, counted from the outermost
abbrev pub place_of : ℕ → List Held → Option ℕ
place_of x [] = None
place_of x (held.Word y before ∷ hs) = if nat_eq x y then Some (length hs) else place_of x hs
place_of x (held.Closure i ∷ hs) = place_of x hs

-- each variable that holds a word has the place of the next outside that holds it
abbrev pub AreShadowed : List Held → Type 0
AreShadowed [] = Unit {0}
AreShadowed (held.Word x before ∷ hs) = (before ≡ place_of x hs) × AreShadowed hs
AreShadowed (held.Closure i ∷ hs) = AreShadowed hs

-- the place of a word once the innermost variable is forgotten
abbrev pub uncovered : Held → ℕ → Option ℕ → Option ℕ
uncovered (held.Word y before) x place = if nat_eq x y then before else place
uncovered (held.Closure i) x place = place

module _ {S : Type 0} where
  pub record ArePlaced (places : HashMap ℕ ℕ S) (hs : List Held) : Type 0 where
    pub at : (x : ℕ) → get nat_eq places x ≡ place_of x hs
    pub before : AreShadowed hs
