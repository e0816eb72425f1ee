use Rattle.wasm_core.proofs.Trees.{tree_answers as law}
use Rattle.wasm_core.proofs.laws.tree_answers.Goals as goal

pub returns : goal.returns
returns c = record { holds = law }
