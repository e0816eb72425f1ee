use Rattle.wasm_core.proofs.FaultUnique.{fault_place_unique as law}
use Rattle.wasm_core.proofs.laws.fault_place_is_unique.Goals as goal

pub returns : goal.returns
returns c = record { holds = law }
