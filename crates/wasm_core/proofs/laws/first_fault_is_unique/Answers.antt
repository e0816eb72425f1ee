use Rattle.wasm_core.proofs.FaultUnique.{first_fault_unique as law}
use Rattle.wasm_core.proofs.laws.first_fault_is_unique.Goals as goal

pub returns : goal.returns
returns c = record { holds = law }
