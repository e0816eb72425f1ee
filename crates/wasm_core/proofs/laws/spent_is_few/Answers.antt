use Rattle.wasm_core.proofs.MachineRuns.{spent_few as law}
use Rattle.wasm_core.proofs.laws.spent_is_few.Goals as goal

pub returns : goal.returns
returns c = record { holds = law }
