use Rattle.wasm_core.proofs.Starting.{hosted_starts as law}
use Rattle.wasm_core.proofs.laws.hosted_starts.Goals as goal

pub returns : goal.returns
returns c = record { holds = law }
