-- What the functions of the encoder promise.
use Rattle.std.specs.Prelude.{◌≡◌, ℕ, ◌<◌, ◌≤◌, List, [], ◌∷◌, ◌++◌, length, Result, Ok, Err}
use Rattle.wasm_core.specs.ShortestBytes.{most_bytes}
use Rattle.wasm_core.specs.declared.types.ValType.{ValType}
use Rattle.wasm_core.specs.declared.binary_faults.EncodeFault.{EncodeFault}
use Rattle.wasm_core.specs.declared.binary_faults.EncodeFault.TheVariants as faults

-- these bytes are put after the others
pub record Puts (old new : List ℕ) (put : List ℕ → List ℕ) : Type 0 where
  pub grows : length old ≤ length new
  pub after : (w : List ℕ) → new ++ w ≡ old ++ put w

-- these bytes are put, or they alone pass 16 MiB
abbrev pub PutsUnless : Result (Unit {0}) EncodeFault → (old new : List ℕ) → (List ℕ → List ℕ) → Type 0
PutsUnless (Ok x) old new put = Puts old new put
PutsUnless (Err faults.ModuleBytes) old new put = (w : List ℕ) → most_bytes < length (put w)
PutsUnless (Err faults.Memory) old new put = Unit {0}

-- the first run, where there is one, has fewer locals than that
abbrev pub FirstBelow : ℕ → List (ℕ × ValType) → Type 0
FirstBelow n [] = Unit {0}
FirstBelow n (r ∷ rs) = r.0 < n
