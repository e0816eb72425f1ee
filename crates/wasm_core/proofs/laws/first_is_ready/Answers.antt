use Rattle.wasm_core.proofs.WordsStay.{first_is_ready as law}
use Rattle.wasm_core.proofs.laws.first_is_ready.Goals as goal

pub returns : goal.returns
returns c = record { holds = law }
