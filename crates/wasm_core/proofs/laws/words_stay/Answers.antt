use Rattle.wasm_core.proofs.WordsStay.{words_stay as law}
use Rattle.wasm_core.proofs.laws.words_stay.Goals as goal

pub returns : goal.returns
returns c = record { holds = law }
