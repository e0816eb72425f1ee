use Rattle.wasm_core.proofs.Judged.{bodies_are_judged as law}
use Rattle.wasm_core.proofs.laws.bodies_are_judged.Goals as goal

pub returns : goal.returns
returns c = record { holds = law }
