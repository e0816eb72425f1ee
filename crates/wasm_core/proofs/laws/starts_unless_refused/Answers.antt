use Rattle.wasm_core.proofs.Refusals.{starts_unless_refused as law}
use Rattle.wasm_core.proofs.laws.starts_unless_refused.Goals as goal

pub returns : goal.returns
returns c = record { holds = law }
