use Rattle.wasm_core.proofs.WordsStay.{hosted_words_stay as law}
use Rattle.wasm_core.proofs.laws.hosted_words_stay.Goals as goal

pub returns : goal.returns
returns c = record { holds = law }
