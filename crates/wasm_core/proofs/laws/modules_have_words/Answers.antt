use Rattle.wasm_core.proofs.Closed.{modules_have_words as law}
use Rattle.wasm_core.proofs.laws.modules_have_words.Goals as goal

pub returns : goal.returns
returns c = record { holds = law }
