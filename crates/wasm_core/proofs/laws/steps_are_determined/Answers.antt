use Rattle.wasm_core.proofs.Starting.{determined as law}
use Rattle.wasm_core.proofs.laws.steps_are_determined.Goals as goal

pub returns : goal.returns
returns c = record { holds = law }
