-- What is known of the bytes of a source or a sink.
use Rattle.std.specs.Prelude.{◌≡◌, ℕ, ◌≤◌, ◌<◌, List, length, Option, Some, None, Result, Ok, Err}
use Rattle.std.specs.Io.KnownBytes.{Consumes, IsAtEnd}
use Rattle.kio.specs.declared.ReadAll.{ReadAll}
use Rattle.kio.specs.declared.ReadAll.TheVariants as reads

-- The object tells its bytes after the call where it did before.
abbrev pub StillTells : Option (List ℕ) → Option (List ℕ) → Type 0
StillTells None None = Unit {0}
StillTells (Some a) (Some b) = Unit {0}
StillTells _ _ = ⊥

-- The whole input, within the limit; or the input is longer.
abbrev pub ReadsInput : {V : Type 0} → (V → List ℕ) → Result V ReadAll → ℕ → Option (List ℕ) → Option (List ℕ) → Type 0
ReadsInput view (Ok v) limit None new = length (view v) ≤ limit
ReadsInput view (Ok v) limit (Some left) new = (view v ≡ left) × (length left ≤ limit)
ReadsInput view (Err reads.TooLong) limit None new = Unit {0}
ReadsInput view (Err reads.TooLong) limit (Some left) new = limit < length left
ReadsInput view (Err reads.Fault) limit left new = Unit {0}
ReadsInput view (Err reads.Memory) limit left new = Unit {0}

-- What is left after the reads, where the source tells it: nothing after the whole input; else what was given, at most as many
-- bytes as the limit, or more of them where the input is too long, is gone from the front.
abbrev pub LeavesRest : {V : Type 0} → Result V ReadAll → ℕ → Option (List ℕ) → Option (List ℕ) → Type 0
LeavesRest (Ok v) limit old new = IsAtEnd new
LeavesRest (Err reads.TooLong) limit old new = (given : List ℕ) × Consumes old new given × (limit < length given)
LeavesRest (Err reads.Fault) limit old new = (given : List ℕ) × Consumes old new given × (length given ≤ limit)
LeavesRest (Err reads.Memory) limit old new = (given : List ℕ) × Consumes old new given × (length given ≤ limit)
