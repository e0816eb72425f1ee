use Rattle.wasm_core.proofs.DataUnique.{data_unique as law}
use Rattle.wasm_core.proofs.laws.data_is_unique.Goals as goal

pub returns : goal.returns
returns c = record { holds = law }
