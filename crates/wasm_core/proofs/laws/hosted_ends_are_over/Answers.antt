use Rattle.wasm_core.proofs.Trees.{hosted_ends_are_over as law}
use Rattle.wasm_core.proofs.laws.hosted_ends_are_over.Goals as goal

pub returns : goal.returns
returns c = record { holds = law }
