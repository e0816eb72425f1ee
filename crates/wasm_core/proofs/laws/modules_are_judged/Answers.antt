use Rattle.wasm_core.proofs.Decided.{modules_are_judged as law}
use Rattle.wasm_core.proofs.laws.modules_are_judged.Goals as goal

pub returns : goal.returns
returns c = record { holds = law }
