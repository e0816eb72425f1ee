-- A module's sections, put one after the other.
use Rattle.std.proofs.Common.{◌≡◌, ℕ, List, refl, drop}
use Rattle.wasm_core.specs.Parts.{Parts}
use Rattle.wasm_core.specs.ShortestBytes.{put_all, put_sections}
use Rattle.wasm_encode.specs.Sections.{sections}

-- what the sections from this index on put
abbrev pub put_from : Parts → ℕ → List ℕ → List ℕ
put_from m at = put_all (λ put. put) (drop at (sections m))

-- from the first on they are all that a module puts
pub all_sections : (m : Parts) (w : List ℕ) → put_from m 0 w ≡ put_sections m w
unfolding put_all
all_sections m w = refl
