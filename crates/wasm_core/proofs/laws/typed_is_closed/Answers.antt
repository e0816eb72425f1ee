use Rattle.wasm_core.proofs.Closed.{typed_is_closed as law}
use Rattle.wasm_core.proofs.laws.typed_is_closed.Goals as goal

pub returns : goal.returns
returns c = record { holds = law }
