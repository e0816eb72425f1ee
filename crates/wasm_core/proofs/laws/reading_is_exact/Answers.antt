use Rattle.wasm_core.proofs.Exact.{exact as law}
use Rattle.wasm_core.proofs.laws.reading_is_exact.Goals as goal

pub returns : goal.returns
returns c = record { holds = law }
