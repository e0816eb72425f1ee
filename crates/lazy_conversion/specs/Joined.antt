-- Places for the terms that bindings are read to, of which two are for one term.
use Rattle.std.specs.Prelude.{ℕ, ◌≡◌, Option, Some}

-- both are places, and for one term
abbrev pub AreOne : Option ℕ → Option ℕ → Type 0
AreOne (Some m) (Some n) = m ≡ n
AreOne _ _ = ⊥

-- they are for one term, where both are places
abbrev pub MayBeOne : Option ℕ → Option ℕ → Type 0
MayBeOne (Some m) (Some n) = m ≡ n
MayBeOne _ _ = Unit {0}
