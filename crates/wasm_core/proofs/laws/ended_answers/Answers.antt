use Rattle.wasm_core.proofs.MachineRuns.{ended_answers as law}
use Rattle.wasm_core.proofs.laws.ended_answers.Goals as goal

pub returns : goal.returns
returns c = record { holds = law }
