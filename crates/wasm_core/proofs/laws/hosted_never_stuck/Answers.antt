use Rattle.wasm_core.proofs.Starting.{hosted_never_stuck as law}
use Rattle.wasm_core.proofs.laws.hosted_never_stuck.Goals as goal

pub returns : goal.returns
returns c = record { holds = law }
