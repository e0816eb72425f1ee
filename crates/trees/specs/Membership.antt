-- Membership of a list, which is all that rules ask of declarations.
use Rattle.std.specs.Prelude.{List, ◌∷◌}

pub data Has {A : Type 0} : List A → A → Type 0 where
  here : {x : A} {xs : List A} → Has (x ∷ xs) x
  there : {x y : A} {xs : List A} → Has xs x → Has (y ∷ xs) x
