-- Histories: what the reads of a source gave, piece by piece, and what the writes of a sink took.
use Rattle.std.specs.Prelude.{◌≡◌, ℕ, ◌≤◌, ◌<◌, List, [], ◌∷◌, ◌++◌, length, take, drop, Result, Ok, Err, MatchResult}
use Rattle.std.specs.List.{concat}
use Rattle.kio.specs.declared.ReadAll.{ReadAll}
use Rattle.kio.specs.declared.ReadAll.TheVariants as reads

-- A read that answers n into a buffer with room gave these n bytes as one piece, an empty one where it met the end of the input. A read without room gave no piece, nor did one that failed.
abbrev pub ReadGives : {E : Type 0} → List (List ℕ) → List (List ℕ) → Result ℕ E → List ℕ → Type 0
ReadGives old new r buf = MatchResult r (λ n. (0 < length buf → new ≡ old ++ take n buf ∷ []) × (length buf ≡ 0 → new ≡ old)) (λ _. new ≡ old)

-- The pieces grew at their end, or are the same.
abbrev pub IsLater : List (List ℕ) → List (List ℕ) → Type 0
IsLater old new = (pieces : List (List ℕ)) × (new ≡ old ++ pieces)

-- the bytes that were given since
unfoldable pub given_since : List (List ℕ) → List (List ℕ) → List ℕ
given_since old new = concat (drop (length old) new)

-- The last piece that was given since is an empty one: the end of the input.
abbrev pub MetEnd : List (List ℕ) → List (List ℕ) → Type 0
MetEnd old new = (pieces : List (List ℕ)) × (new ≡ old ++ (pieces ++ [] ∷ []))

-- What was given in reading a whole input within a limit: its bytes, and then its end; or more bytes than the limit; or at most as many.
abbrev pub GivesWhole : {V : Type 0} → (V → List ℕ) → Result V ReadAll → ℕ → List (List ℕ) → List (List ℕ) → Type 0
GivesWhole view (Ok v) limit old new = (view v ≡ given_since old new) × (length (view v) ≤ limit) × MetEnd old new
GivesWhole view (Err reads.TooLong) limit old new = limit < length (given_since old new)
GivesWhole view (Err reads.Fault) limit old new = length (given_since old new) ≤ limit
GivesWhole view (Err reads.Memory) limit old new = length (given_since old new) ≤ limit
