use Rattle.wasm_core.proofs.Trees.{moves_are_steps as law}
use Rattle.wasm_core.proofs.laws.moves_are_steps.Goals as goal

pub returns : goal.returns
returns c = record { holds = law }
