use Rattle.wasm_core.proofs.FaultUnique.{first_fault_is_fault as law}
use Rattle.wasm_core.proofs.laws.first_fault_is_fault.Goals as goal

pub returns : goal.returns
returns c = record { holds = law }
