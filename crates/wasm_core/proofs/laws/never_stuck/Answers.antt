use Rattle.wasm_core.proofs.Starting.{never_stuck as law}
use Rattle.wasm_core.proofs.laws.never_stuck.Goals as goal

pub returns : goal.returns
returns c = record { holds = law }
