use Rattle.wasm_core.proofs.FaultUnique.{front_goes_on as law}
use Rattle.wasm_core.proofs.laws.fronts_can_go_on.Goals as goal

pub returns : goal.returns
returns c = record { holds = law }
