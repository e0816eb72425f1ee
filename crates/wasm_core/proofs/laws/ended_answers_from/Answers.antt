use Rattle.wasm_core.proofs.MachineRuns.{ended_from as law}
use Rattle.wasm_core.proofs.laws.ended_answers_from.Goals as goal

pub returns : goal.returns
returns c = record { holds = law }
