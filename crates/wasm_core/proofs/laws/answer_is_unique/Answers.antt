use Rattle.wasm_core.proofs.DataUnique.{answer_unique as law}
use Rattle.wasm_core.proofs.laws.answer_is_unique.Goals as goal

pub returns : goal.returns
returns c = record { holds = law }
