-- What the outcome of reading means for the bytes.
use Rattle.std.proofs.Common.{◌≡◌, List, [], ℕ, Result, Ok, Err, subst, ◌∙◌, length}
use Rattle.wasm_core.specs.Format.{DecodeOutcome, judge, Accepted}
use Rattle.wasm_core.specs.Parts.{Parts}
use Rattle.wasm_core.specs.Spelling.{MeetsFormat}
use Rattle.wasm_core.specs.ModuleGrammar.{file}
use Rattle.wasm_core.specs.declared.binary_faults.DecodeFault.{DecodeFault}
use Rattle.wasm_core.specs.declared.binary_faults.DecodeFault.TheVariants as faults
use Rattle.wasm_core.proofs.Exact.{meets}
use Rattle.wasm_decode.specs.Reads.{Goes}
use Rattle.wasm_decode.specs.Reading.{ExplainsFound}
use Rattle.wasm_decode.specs.Found.{parts_of}
use Rattle.wasm_decode.specs.declared.found.Found.{Found}

-- a fault's meaning goes by the outcome alone
pub goes_with : {X Y : Type 0} (e : DecodeFault) (o p : DecodeOutcome Parts) (g : X → DecodeOutcome Parts) (h : Y → DecodeOutcome Parts) → o ≡ p → Goes {X = X} (Err e) p g → Goes {X = Y} (Err e) o h
goes_with faults.Memory o p g h q f = tt
goes_with (faults.Bad n) o p g h q f = q ∙ f

pub explains : (r : Result Found DecodeFault) (bytes : List ℕ) → Goes r (judge (file (length bytes)) 0 bytes []) (λ f. Accepted (parts_of f)) → ExplainsFound r bytes
explains (Ok f) bytes g = subst (MeetsFormat (file (length bytes)) 0 bytes []) g (meets (file (length bytes)) 0 bytes [])
explains (Err faults.Memory) bytes g = tt
explains (Err (faults.Bad o)) bytes g = subst (MeetsFormat (file (length bytes)) 0 bytes []) g (meets (file (length bytes)) 0 bytes [])
