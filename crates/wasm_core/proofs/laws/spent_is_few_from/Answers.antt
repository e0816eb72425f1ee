use Rattle.wasm_core.proofs.MachineRuns.{spent_from as law}
use Rattle.wasm_core.proofs.laws.spent_is_few_from.Goals as goal

pub returns : goal.returns
returns c = record { holds = law }
